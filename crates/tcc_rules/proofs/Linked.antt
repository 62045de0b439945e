-- Links, one after the other: which is the first that is wrong, where they end, and what they cost.
use Rattle.std.proofs.Common.{◌≡◌, ◌<◌, ◌≤◌, ◌+◌, ◌-◌, ◌↔◌, ℕ, ◌⊎◌, Bool, true, false, cond, inl, inr, List, [], ◌∷◌, ◌++◌, Option, None, Some, length, get_or}
use Rattle.std.proofs.Common.{take, drop, arith, refl, sym, ap, subst, ◌∙◌, length-append}
use Rattle.std.specs.Prelude.{IsTrue, MatchOption, nat_lt}
use Rattle.std.proofs.lemmas.Bool.{cases_eq, iff_false}
use Rattle.std.proofs.lemmas.Bool.Decides.{nat_tests}
use Rattle.std.proofs.lemmas.List.{drop_more, take_more, take_at, get_or_at, take-append-drop, length-take-le}
use Rattle.tcc_graph.specs.Levels.{Judged}
use Rattle.tcc_graph.specs.Links.{cost, link_cost, link_from, link_to}
use Rattle.tcc_graph.specs.declared.link.Link.{Link}
use Rattle.tcc_graph.proofs.Linking.{cost_append, one_cost}
use Rattle.tcc_cert.specs.CycleRules.{AreLinksRight, IsLinkRight, IsLinksFault, IsLinkWrong, IsWrongFrom, ends_at}
use Rattle.tcc_cert.proofs.Ends.{ends_at-push, ends_at_some}
use Rattle.tcc_rules.specs.declared.links.LinksSeen.{LinksSeen}
use Rattle.tcc_rules.specs.Links.{AreSeenTo, IsFirstWrongFrom, begins_at, ends_or, first_wrong, left_behind}

-- ---- the next link

module _ (j : Judged) (links : List Link) (i : ℕ) (l : Link) (inside : i < length links) (is : l ≡ get_or links i l) where
  abbrev from : ℕ
  from = begins_at links

  wrong_here : IsWrongFrom j from links (i + 1) → IsLinkRight j (ends_at from (take i links)) l → ⊥
  wrong_here w right =
      let long : length w.before ≡ i = omega (arith, w.at) in
      let same : l ≡ w.link = is ∙ ap (λ z. get_or z i l) w.split ∙ get_or_at w.before w.link w.after l i long in
      let front : take i links ≡ w.before = ap (take i) w.split ∙ take_at w.before (w.link ∷ w.after) i long in
      w.wrong (subst (λ (z : Link). IsLinkRight j (ends_at from w.before) z) same
      (subst (λ (z : List Link). IsLinkRight j (ends_at from z) l) front right))

  still_right : ((n : ℕ) → n ≤ i → IsWrongFrom j from links n → ⊥) → IsLinkRight j (ends_at from (take i links)) l → (n : ℕ) → n ≤ i + 1
      → IsWrongFrom j from links n → ⊥
  still_right so_far right n le wrong = go (cases_eq n (i + 1))
    where
      go : (n ≡ i + 1) ⊎ (n ≡ i + 1 → ⊥) → ⊥
      go (inl same) = wrong_here (subst (λ (z : ℕ). IsWrongFrom j from links z) same wrong) right
      go (inr apart) = so_far n (omega (arith, le, apart)) wrong

  found_wrong : ((n : ℕ) → n ≤ i → IsWrongFrom j from links n → ⊥) → (IsLinkRight j (ends_at from (take i links)) l → ⊥)
      → IsFirstWrongFrom j from links (i + 1)
  found_wrong so_far wrong = record {
    wrong = record {
      before = take i links;
      link = l;
      after = drop (i + 1) links;
      split = sym (take-append-drop i links) ∙ ap (λ z. take i links ++ z) (drop_more links i l inside ∙ ap (λ z. z ∷ drop (i + 1) links) (sym is));
      at = omega (arith, length-take-le i links (omega (arith, inside)));
      wrong = wrong;
    };
    first = λ n lt other. so_far n (omega (arith, lt)) other;
  }

  -- the first wrong link, with one more link
  wrong_next : (found : Option ℕ) (right : Bool) → IsTrue right ↔ IsLinkRight j (ends_at from (take i links)) l
      → MatchOption found ((n : ℕ) → n ≤ i → IsWrongFrom j from links n → ⊥) (IsFirstWrongFrom j from links)
      → MatchOption (first_wrong found right (i + 1)) ((n : ℕ) → n ≤ i + 1 → IsWrongFrom j from links n → ⊥) (IsFirstWrongFrom j from links)
  wrong_next (Some first) right shows so_far = so_far
  wrong_next None true shows so_far = still_right so_far (shows.0 refl)
  wrong_next None false shows so_far = found_wrong so_far (iff_false shows refl)

  one_more : take (i + 1) links ≡ take i links ++ l ∷ []
  one_more = take_more links i l inside ∙ ap (λ z. take i links ++ z ∷ []) (sym is)

  long : length (take i links) ≡ i
  long = length-take-le i links (omega (arith, inside))

  -- what is left of the cost, with one more link
  left_next : (least : ℕ) (left : Option ℕ) → MatchOption left (least < cost (take i links)) (λ left. cost (take i links) + left ≡ least)
      → MatchOption (left_behind left (link_cost l)) (least < cost (take (i + 1) links)) (λ left. cost (take (i + 1) links) + left ≡ least)
  left_next least (Some left) so_far = go (nat_lt left (link_cost l)) refl
    where
      sum : cost (take (i + 1) links) ≡ cost (take i links) + link_cost l
      sum = omega (arith, ap cost one_more, cost_append (take i links) (l ∷ []), one_cost l)

      go : (b : Bool) → nat_lt left (link_cost l) ≡ b
          → MatchOption (cond b None (Some (left - link_cost l))) (least < cost (take (i + 1) links)) (λ left. cost (take (i + 1) links) + left ≡ least)
      go true less = let lt : left < link_cost l = grind (arith, nat_tests) in omega (arith, sum, so_far, lt)
      go false less = let le : link_cost l ≤ left = grind (arith, nat_tests) in omega (arith, sum, so_far, le)
  left_next least None so_far = omega (arith, so_far, ap cost one_more, cost_append (take i links) (l ∷ []), one_cost l)

  -- where the first begins and the last ends, if there is one
  ends_now : (ends : Option (ℕ × ℕ)) → MatchOption ends (i ≡ 0) (λ ends. (0 < i) × (ends.0 ≡ from) × (ends.1 ≡ ends_at 0 (take i links)))
      → ((ends_or ends (link_from l)).0 ≡ from) × ((ends_or ends (link_from l)).1 ≡ ends_at from (take i links))
  ends_now (Some ends) so_far = (so_far.1, so_far.2 ∙ ends_at_some 0 from (take i links) (omega (arith, long, so_far.0)))
  ends_now None none = (begin links none is inside, begin links none is inside ∙ sym (ap (λ n. ends_at from (take n links)) none))
    where
      begin : (all : List Link) → i ≡ 0 → l ≡ get_or all i l → i < length all → link_from l ≡ begins_at all
      begin [] none is inside = absurd (omega (arith, inside))
      begin (first ∷ all) none is inside = ap link_from (is ∙ ap (λ n. get_or (first ∷ all) n l) none)

  pub seen_next : (least : ℕ) (seen : LinksSeen) (right : Bool) → AreSeenTo j least links i seen
      → IsTrue right ↔ IsLinkRight j (ends_or seen.ends (link_from l)).1 l
      → AreSeenTo j least links (i + 1) (record {
        ends = Some ((ends_or seen.ends (link_from l)).0, link_to l);
        wrong = first_wrong seen.wrong right (i + 1);
        left = left_behind seen.left (link_cost l);
      })
  seen_next least seen right so_far shows =
      let now = ends_now seen.ends so_far.ends in
      record {
        ends = (omega arith, now.0, sym (ap (ends_at 0) one_more ∙ ends_at-push 0 (take i links) l));
        wrong = wrong_next seen.wrong right (subst (λ (at : ℕ). IsTrue right ↔ IsLinkRight j at l) now.1 shows) so_far.wrong;
        left = left_next least seen.left so_far.left;
      }

pub seen_none : (j : Judged) (least : ℕ) (links : List Link) → AreSeenTo j least links 0 (record { ends = None; wrong = None; left = Some least })
seen_none j least links = record { ends = refl; wrong = λ n le wrong. absurd (omega (arith, le, wrong.at)); left = omega arith }

-- nothing is left where all was to be spent
pub used_up : (least spent : ℕ) (left : Option ℕ) → MatchOption left (least < spent) (λ left. spent + left ≡ least) → spent ≡ least → left ≡ Some 0
used_up least spent (Some left) is same = ap Some (omega (arith, is, same))
used_up least spent None is same = absurd (omega (arith, is, same))

-- ---- all links

pub take_whole : (links : List Link) → take (length links) links ≡ links
take_whole [] = refl
take_whole (l ∷ links) = ap (λ z. l ∷ z) (take_whole links)

module _ (j : Judged) (most : ℕ) (links : List Link) where
  as_wrong : begins_at links ≡ ends_at 0 links → (n : ℕ) → IsWrongFrom j (begins_at links) links n → IsLinkWrong j links n
  as_wrong closed n w = subst (λ (from : ℕ). IsWrongFrom j from links n) closed w

  wrong_as : begins_at links ≡ ends_at 0 links → (n : ℕ) → IsLinkWrong j links n → IsWrongFrom j (begins_at links) links n
  wrong_as closed n w = subst (λ (from : ℕ). IsWrongFrom j from links n) (sym closed) w

  none_wrong : ((n : ℕ) → n ≤ length links → IsWrongFrom j (begins_at links) links n → ⊥) → begins_at links ≡ ends_at 0 links
      → (n : ℕ) → IsLinkWrong j links n → ⊥
  none_wrong right closed n w =
      right n (omega (arith, w.at, ap length w.split, length-append w.before (w.link ∷ w.after))) (wrong_as closed n w)

  -- there is no link
  pub fault_empty : length links ≡ 0 → IsLinksFault j most links (0, 0)
  fault_empty none =
      inr (refl, ((λ n w. omega (arith, none, ap length w.split, length-append w.before (w.link ∷ w.after))), (λ right. omega (arith, none, right.some))))

  -- the first does not begin where the last ends
  pub fault_open : 0 < length links → (begins_at links ≡ ends_at 0 links → ⊥) → IsLinksFault j most links (1, 0)
  fault_open some apart = inl (go links refl some, (refl, λ n lt w. omega (arith, lt, w.at)))
    where
      go : (all : List Link) → links ≡ all → 0 < length all → IsLinkWrong j links 1
      go [] same some = absurd (omega (arith, some))
      go (l ∷ later) same some = record {
        before = [];
        link = l;
        after = later;
        split = same;
        at = refl;
        wrong = λ right. apart (ap begins_at same ∙ right.0);
      }

  -- this is the first wrong one
  pub fault_wrong : (n : ℕ) → IsFirstWrongFrom j (begins_at links) links n → begins_at links ≡ ends_at 0 links → IsLinksFault j most links (n, 0)
  fault_wrong n found closed = inl (as_wrong closed n found.wrong, (refl, λ m lt w. found.first m lt (wrong_as closed m w)))

  -- they have another cost
  pub fault_cost : ((n : ℕ) → n ≤ length links → IsWrongFrom j (begins_at links) links n → ⊥) → begins_at links ≡ ends_at 0 links
      → (cost links ≡ most → ⊥) → IsLinksFault j most links (0, 0)
  fault_cost right closed other = inr (refl, (none_wrong right closed, λ all. other all.costs))

  pub right_links : 0 < length links → ((n : ℕ) → n ≤ length links → IsWrongFrom j (begins_at links) links n → ⊥)
      → begins_at links ≡ ends_at 0 links → cost links ≡ most → AreLinksRight j most links
  right_links some right closed costs = record { some = some; right = none_wrong right closed; costs = costs }

  -- where the first begins and the last ends
  pub where_ends : (end : ℕ) → end ≡ ends_at 0 (take (length links) links) → end ≡ ends_at 0 links
  where_ends end is = is ∙ ap (ends_at 0) (take_whole links)

  pub whole_cost : cost (take (length links) links) ≡ cost links
  whole_cost = ap cost (take_whole links)
