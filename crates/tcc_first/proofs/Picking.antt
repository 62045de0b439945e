-- The way back from where the first cycle starts, link by link.
use Rattle.std.proofs.Common.{ℕ, ◌≡◌, ◌≢◌, ◌<◌, ◌≤◌, ◌+◌, List, [], ◌∷◌, ◌++◌, length, length-append, append_assoc, reverse, refl, sym, ◌∙◌, ap, subst, arith}
use Rattle.std.proofs.lemmas.List.{reverse-reverse}
use Rattle.tcc_graph.specs.Levels.{Judged}
use Rattle.tcc_graph.specs.Links.{link_from, link_to, link_cost, cost}
use Rattle.tcc_graph.specs.Routes.{LinksLead, IsCycle, IsLeastCycle}
use Rattle.tcc_graph.specs.Ties.{link_cmp, IsFirstCycle}
use Rattle.tcc_graph.specs.declared.link.Link.{Link}
use Rattle.tcc_graph.proofs.Linking.{some_cost, cost_cons, cost_append, cost_around, some_links, lead_append, lead_split, lead_start}
use Rattle.tcc_derive.proofs.Backwards.{Picks, Picks-push, Picks-at}
use Rattle.tcc_derive.proofs.CycleLemmas.{turned}
use Rattle.tcc_derive.proofs.UpwardLemmas.{begins_above}
use Rattle.tcc_derive.proofs.PickedLemmas.{IsBack, ends_back, first_from_picked}
use Rattle.tcc_first.specs.private.Starts.{IsFirstStart}
use Rattle.tcc_first.specs.private.Picks.{EndsWay, IsFirstLast}
use Rattle.tcc_first.proofs.Around.{last_link}

-- some links were picked: they lead on from `end` back to the start, what is left brings the search to `end`, and each was the first that
-- could be picked
pub record IsUnderWay (j : Judged) (s : ℕ) (n : ℕ) (end : ℕ) (left : ℕ) (picked : List Link) : Type 0 where
  pub back : LinksLead j end s (reverse picked)
  pub costs : left + cost (reverse picked) ≡ n
  pub way : (front : List Link) × LinksLead j s end front × (cost front ≡ left)
  pub picks : Picks link_cmp (IsBack j s) [] picked

some_of : (links : List Link) → 0 < cost links → 0 < length links
some_of [] some = absurd (omega arith)
some_of (l ∷ links) some = omega arith

module _ {j : Judged} {s n : ℕ} (is : IsFirstStart j s n) where
  exact_cost : (links : List Link) → IsLeastCycle j s links → cost links ≡ n
  exact_cost links least =
      let (others, cycle, costs) = is.attained in
      let high : cost links ≤ cost others = least.least s others cycle in
      omega (arith, is.least s links least.cycle, high, costs)

  some_left : 0 < n
  some_left = let (others, cycle, costs) = is.attained in omega (arith, some_links others cycle.0, costs)

  -- nothing was picked so far
  pub under_way : IsUnderWay j s n s n []
  under_way = let (others, cycle, costs) = is.attained in record { back = refl; costs = omega arith; way = (others, cycle.1, costs); picks = tt }

  module _ {end left : ℕ} {picked : List Link} (way : IsUnderWay j s n end left picked) where
    -- a link that ends the way forms a least cycle together with those picked
    closes : (front : List Link) (o : Link) → LinksLead j s (link_from o) front → (ends : EndsWay j s end left o) → cost front + link_cost o ≤ left
        → IsLeastCycle j s (front ++ o ∷ reverse picked)
    closes front o lead ends low =
        let on : LinksLead j (link_from o) s (o ∷ reverse picked) =
        (refl, ends.link, subst (λ (z : ℕ). LinksLead j z s (reverse picked)) (sym ends.to) way.back) in
        record {
          cycle = (rw length-append (omega arith), lead_append j s (link_from o) s front (o ∷ reverse picked) lead on);
          least = λ t others other. omega (arith, is.least t others other, cost_around front o (reverse picked), low, way.costs);
        }

    -- and the other way round
    ends_of : (front : List Link) (o : Link) → IsLeastCycle j s (front ++ o ∷ reverse picked) → EndsWay j s end left o
    ends_of front o ends =
        let (m, lead, on) = lead_split j s s front (o ∷ reverse picked) ends.cycle.1 in
        record {
          to = lead_start j (link_to o) end s (reverse picked) on.2 way.back;
          link = on.1;
          way = (
            front,
            subst (λ (z : ℕ). LinksLead j s z front) (sym on.0) lead,
            omega (arith, exact_cost (front ++ o ∷ reverse picked) ends, cost_around front o (reverse picked), way.costs),
          );
        }

    -- it begins at no number below the start
    pub above : (o : Link) → EndsWay j s end left o → s ≤ link_from o
    above o ends = let (front, lead, sum) = ends.way in begins_above j s is.lowest front o (reverse picked) (closes front o lead ends (omega (arith, sum)))

    -- of two that begin at one number neither costs less
    no_dearer : (o k : Link) → EndsWay j s end left o → EndsWay j s end left k → link_from o ≡ link_from k → link_cost o ≤ link_cost k
    no_dearer o k p q same =
        let (front, lead, sum) = p.way in
        let there : LinksLead j s (link_from k) front = subst (λ (z : ℕ). LinksLead j s z front) same lead in
        let on : LinksLead j (link_from k) s (k ∷ reverse picked) =
        (refl, q.link, subst (λ (z : ℕ). LinksLead j z s (reverse picked)) (sym q.to) way.back) in
        let cycle : IsCycle j s (front ++ k ∷ reverse picked) =
        (rw length-append (omega arith), lead_append j s (link_from k) s front (k ∷ reverse picked) there on) in
        omega (arith, is.least s (front ++ k ∷ reverse picked) cycle, cost_around front k (reverse picked), sum, way.costs)

    pub same_cost : (o k : Link) → EndsWay j s end left o → EndsWay j s end left k → link_from o ≡ link_from k → link_cost o ≡ link_cost k
    same_cost o k p q same = omega (arith, no_dearer o k p q same, no_dearer k o q p (sym same))

    -- where all is left nothing was picked
    pub at_start : left ≡ n → s ≡ end
    at_start all = go (reverse picked) way.back (omega (arith, way.costs, all))
      where
        go : (links : List Link) → LinksLead j end s links → cost links ≡ 0 → s ≡ end
        go [] lead e = sym lead
        go (l ∷ links) lead e = absurd (omega (arith, e, cost_cons l links, some_cost l))

    -- there is a link to pick
    pub never_stuck : left ≢ 0 → ((o : Link) → EndsWay j s end left o → ⊥) → ⊥
    never_stuck some none =
        let (links, lead, costs) = way.way in
        let (front, o, e) = last_link links (some_of links (omega (arith, some, costs))) in
        let joined : links ++ reverse picked ≡ front ++ o ∷ reverse picked = ap (λ ls. ls ++ reverse picked) e ∙ append_assoc front (o ∷ []) (reverse picked) in
        let whole : cost (links ++ reverse picked) ≡ n = omega (arith, cost_append links (reverse picked), way.costs, costs) in
        let cycle : IsCycle j s (links ++ reverse picked) =
        (rw length-append (omega (arith, some_of links (omega (arith, some, costs)))), lead_append j s end s links (reverse picked) lead way.back) in
        let least : IsLeastCycle j s (links ++ reverse picked) =
        record { cycle = cycle; least = λ t others other. omega (arith, is.least t others other, whole) } in
        none o (ends_of front o (subst (λ (ls : List Link). IsLeastCycle j s ls) joined least))

    -- the first is the one to pick
    pub one_more : {l : Link} {u m : ℕ} → IsFirstLast j s end left l → link_from l ≡ u → m + link_cost l ≡ left → IsUnderWay j s n u m (picked ++ l ∷ [])
    one_more {l} {u} {m} first from sum =
        let (front, lead, rest) = first.ends.way in
        let back : LinksLead j u s (l ∷ reverse picked) =
        (from, first.ends.link, subst (λ (z : ℕ). LinksLead j z s (reverse picked)) (sym first.ends.to) way.back) in
        record {
          back = rw (turned picked l []) back;
          costs = rw (turned picked l []) (omega (arith, cost_cons l (reverse picked), sum, way.costs));
          way = (front, subst (λ (z : ℕ). LinksLead j s z front) from lead, omega (arith, sum, rest));
          picks = Picks-push link_cmp (IsBack j s) [] picked l way.picks (λ o others ends. first.first o (ends_of (reverse others) o (rw turned at ends)));
        }

  -- nothing is left
  pub all_paid : {end : ℕ} {picked : List Link} → IsUnderWay j s n end 0 picked → cost (reverse picked) ≡ n
  all_paid way = omega (arith, way.costs)

  pub all_picked : {end : ℕ} {picked : List Link} → IsUnderWay j s n end 0 picked → IsFirstCycle j s (reverse picked)
  all_picked {end} {picked} way = first_from_picked j s (reverse picked) (record {
    least = least;
    lowest = is.lowest;
    each = λ front l rest e other (others, ends).
        let there : picked ≡ reverse rest ++ l ∷ reverse front = sym (reverse-reverse picked) ∙ ap reverse e ∙ turned front l rest in
        let picks = subst (λ (ls : List Link). Picks link_cmp (IsBack j s) [] ls) there way.picks in
        Picks-at link_cmp (IsBack j s) [] (reverse rest) l (reverse front) picks other (reverse others) (ends_back j s others other rest ends);
  })
    where
      start_of : (front : List Link) → LinksLead j s end front → cost front ≡ 0 → s ≡ end
      start_of [] lead e = lead
      start_of (l ∷ front) lead e = absurd (omega (arith, e, cost_cons l front, some_cost l))

      least : IsLeastCycle j s (reverse picked)
      least =
          let (front, lead, nothing) = way.way in
          let same : s ≡ end = start_of front lead nothing in
          let costs : cost (reverse picked) ≡ n = omega (arith, way.costs) in
          record {
            cycle = (some_of (reverse picked) (omega (arith, costs, some_left)), subst (λ (z : ℕ). LinksLead j z s (reverse picked)) (sym same) way.back);
            least = λ u others other. omega (arith, is.least u others other, costs);
          }
