-- Parts of a cycle that lead back, the first of them, and that a least cycle has none but itself.
use Rattle.std.proofs.Common.{below_more, ℕ, zero, suc, ◌+◌, ◌-◌, ◌<◌, ◌≤◌, ◌≡◌, ◌≢◌, ◌⊎◌, inl, inr, List, [], ◌∷◌, length, get_or, take, drop, set, map, refl, sym, ap, subst, ◌∙◌, arith}
use Rattle.std.specs.Prelude.{slice_index}
use Rattle.std.proofs.lemmas.Bool.{cases_lt, cases_eq}
use Rattle.std.proofs.lemmas.List.{get_or-set_same, get_or-set_other, get_or-drop, get_or-take, take-map, drop-map, take-append-drop, length-take-le, length-drop, length-set, get_or-map}
use Rattle.tcc_reads.specs.History.{count}
use Rattle.tcc_graph.specs.Levels.{Judged}
use Rattle.tcc_graph.specs.Links.{link_from, link_to, cost}
use Rattle.tcc_graph.specs.Routes.{LinksLead}
use Rattle.tcc_graph.specs.declared.link.Link.{Link}
use Rattle.tcc_graph.proofs.Linking.{cost_append, some_links}
use Rattle.tcc_graph.proofs.Pairs.{link_below}
use Rattle.tcc_least.specs.Shapes.{AreLeast, NoneBelow}
use Rattle.tcc_graph.specs.Routes.{AreCycle}
use Rattle.tcc_large.specs.Cycles.{IsSimple}
use Rattle.tcc_large.specs.Decisions.{IsFirstIfShort}
use Rattle.tcc_large.specs.private.Returning.{start_at, end_at, IsClosed, IsFirstReturn}
use Rattle.tcc_large.proofs.Numbered.{AreNumbered, numbered_room, numbered_more}

-- ---- links that lead on, by index
-- those from an index on lead from where it starts
pub lead_from : (j : Judged) (a b : ℕ) (links : List Link) (i : ℕ) → i < length links → LinksLead j a b links → LinksLead j (start_at links i) b (drop i links)
lead_from j a b [] i inside lead = absurd (omega arith)
lead_from j a b (l ∷ links) zero inside lead = (refl, lead.1, lead.2)
lead_from j a b (l ∷ links) (suc i) inside lead = lead_from j (link_to l) b links i (omega arith) lead.2

-- those up to an index lead to where it ends
pub lead_to : (j : Judged) (a b : ℕ) (links : List Link) (i : ℕ) → i < length links → LinksLead j a b links → LinksLead j a (end_at links i) (take (suc i) links)
lead_to j a b [] i inside lead = absurd (omega arith)
lead_to j a b (l ∷ links) zero inside lead = (lead.0, lead.1, refl)
lead_to j a b (l ∷ links) (suc i) inside lead = (lead.0, lead.1, lead_to j (link_to l) b links i (omega arith) lead.2)

first_start : (j : Judged) (a b : ℕ) (links : List Link) → 0 < length links → LinksLead j a b links → start_at links 0 ≡ a
first_start j a b [] some lead = absurd (omega arith)
first_start j a b (l ∷ links) some lead = lead.0

joined : (j : Judged) (a b : ℕ) (links : List Link) (i : ℕ) → suc i < length links → LinksLead j a b links → end_at links i ≡ start_at links (suc i)
joined j a b [] i inside lead = absurd (omega arith)
joined j a b (l ∷ links) zero inside lead = sym (first_start j (link_to l) b links (omega arith) lead.2)
joined j a b (l ∷ links) (suc i) inside lead = joined j (link_to l) b links i (omega arith) lead.2

last_end : (j : Judged) (a b : ℕ) (links : List Link) (i : ℕ) → length links ≡ suc i → LinksLead j a b links → end_at links i ≡ b
last_end j a b [] i long lead = absurd (omega arith)
last_end j a b (l ∷ []) zero long lead = lead.2
last_end j a b (l ∷ m ∷ links) zero long lead = absurd (omega arith)
last_end j a b (l ∷ links) (suc i) long lead = last_end j (link_to l) b links i (omega arith) lead.2

start_below : (j : Judged) (a b : ℕ) (links : List Link) (i : ℕ) → i < length links → LinksLead j a b links → start_at links i < count j.history
start_below j a b [] i inside lead = absurd (omega arith)
start_below j a b (l ∷ links) zero inside lead = (link_below j l lead.1).0
start_below j a b (l ∷ links) (suc i) inside lead = start_below j (link_to l) b links i (omega arith) lead.2

pub cycle_closed : (j : Judged) (links : List Link) → AreCycle j links → IsClosed (count j.history) links
cycle_closed j links (s, (some, lead)) = record {
  some = some;
  below = λ i inside. start_below j s s links i inside lead;
  joined = λ i inside. let e : suc i ≡ i + 1 = omega arith in
      subst (λ (z : ℕ). end_at links i ≡ start_at links z) e (joined j s s links i (omega (arith, inside)) lead);
  closed = last_end j s s links (length links - 1) (omega (arith, some)) lead ∙ sym (first_start j s s links some lead);
}

-- ---- a part that leads back

part_start : (links : List Link) (first end i : ℕ) → first + i < end → start_at (drop first (take end links)) i ≡ start_at links (first + i)
part_start links first end i inside =
    ap (λ (z : List ℕ). slice_index z i) (sym (drop-map link_from first (take end links)))
    ∙ (get_or-drop first (map link_from (take end links)) i 0
    ∙ (ap (λ (z : List ℕ). slice_index z (first + i)) (sym (take-map link_from end links)) ∙ get_or-take end (map link_from links) (first + i) 0 inside))

part_length : (links : List Link) (first end : ℕ) → end ≤ length links → length (drop first (take end links)) ≡ end - first
part_length links first end inside = omega (arith, length-drop first (take end links), length-take-le end links inside)

pub part_cycle : (j : Judged) (links : List Link) (first end : ℕ) → first < end → end ≤ length links → end_at links (end - 1) ≡ start_at links first
    → AreCycle j links → AreCycle j (drop first (take end links))
part_cycle j links first end some inside back (s, (full, lead)) =
    (start_at links first, (omega (arith, part_length links first end inside, some), to_start))
  where
    whole : suc (end - 1) ≡ end
    whole = omega (arith, some)

    front : LinksLead j s (end_at links (end - 1)) (take end links)
    front = subst (λ (n : ℕ). LinksLead j s (end_at links (end - 1)) (take n links)) whole (lead_to j s s links (end - 1) (omega (arith, some, inside)) lead)

    begins : start_at (take end links) first ≡ start_at links first
    begins =
        ap (λ (z : List ℕ). slice_index z first) (sym (take-map link_from end links)) ∙ get_or-take end (map link_from links) first 0 some

    rest : LinksLead j (start_at links first) (end_at links (end - 1)) (drop first (take end links))
    rest = subst (λ (z : ℕ). LinksLead j z (end_at links (end - 1)) (drop first (take end links))) begins
        (lead_from j s (end_at links (end - 1)) (take end links) first (omega (arith, length-take-le end links inside, some)) front)

    to_start : LinksLead j (start_at links first) (start_at links first) (drop first (take end links))
    to_start = subst (λ (z : ℕ). LinksLead j (start_at links first) z (drop first (take end links))) back rest

pub return_cycle : (j : Judged) (links : List Link) (first end : ℕ) → IsFirstReturn links first end → AreCycle j links
    → AreCycle j (drop first (take end links))
return_cycle j links first end w = part_cycle j links first end w.some w.inside w.back

pub return_simple : (links : List Link) (first end : ℕ) → IsFirstReturn links first end → IsSimple (drop first (take end links))
return_simple links first end w i k less inside same =
    let long = part_length links first end w.inside in
    w.apart (first + i) (first + k) (omega (arith, less)) (omega (arith, inside, long))
    (sym (part_start links first end i (omega (arith, less, inside, long))) ∙ (same ∙ part_start links first end k (omega (arith, inside, long))))

-- a part of a cycle that isn't all of it costs less
part_cheaper : (links : List Link) (first end : ℕ) → end < length links → cost (drop first (take end links)) < cost links
part_cheaper links first end inside =
    omega (
      arith,
      ap cost (take-append-drop end links),
      cost_append (take end links) (drop end links),
      ap cost (take-append-drop first (take end links)),
      cost_append (take first (take end links)) (drop first (take end links)),
      some_links (drop end links) (omega (arith, length-drop end links, inside)),
    )

pub least_simple : (j : Judged) (links : List Link) → AreLeast j links → IsSimple links
least_simple j links (s, w) i k less inside same =
    let e : suc (k - 1) ≡ k = omega (arith, less) in
    let ends : end_at links (k - 1) ≡ start_at links k
    = subst (λ (z : ℕ). end_at links (k - 1) ≡ start_at links z) e (joined j s s links (k - 1) (omega (arith, less, inside)) w.cycle.1) in
    let cut = part_cycle j links i k less (omega (arith, inside)) (ends ∙ sym same) (s, w.cycle) in
    omega (arith, w.least cut.0 (drop i (take k links)) cut.1, part_cheaper links i k inside)

-- ---- the first that leads back
-- the first m links were passed: the position of each start, from 1 on, was kept, no two start at one number, and the last doesn't lead
-- back
pub record ArePassed (n : ℕ) (links : List Link) (positions : List ℕ) (m : ℕ) : Type 0 where
  pub long : length positions ≡ n
  pub kept : (i : ℕ) → i < m → slice_index positions (start_at links i) ≡ i + 1
  pub noted : (v : ℕ) → 0 < slice_index positions v → (slice_index positions v ≤ m) × (start_at links (slice_index positions v - 1) ≡ v)
  pub ahead : 0 < m → slice_index positions (end_at links (m - 1)) ≡ 0

pub none_passed : (n : ℕ) (links : List Link) (positions : List ℕ) → length positions ≡ n → ((v : ℕ) → slice_index positions v ≡ 0) → ArePassed n links positions 0
none_passed n links positions long none = record {
  long = long;
  kept = λ i l. absurd (omega (arith, l));
  noted = λ v some. absurd (omega (arith, some, none v));
  ahead = λ some. absurd (omega (arith, some));
}

pub start_is : (links : List Link) (l : Link) (i : ℕ) → i < length links → l ≡ get_or links i l → link_from l ≡ start_at links i
start_is links l i inside is = ap link_from is ∙ sym (get_or-map link_from links i l 0 inside)

pub end_is : (links : List Link) (l : Link) (i : ℕ) → i < length links → l ≡ get_or links i l → link_to l ≡ end_at links i
end_is links l i inside is = ap link_to is ∙ sym (get_or-map link_to links i l 0 inside)

-- one more link
module _ (n : ℕ) (links : List Link) (positions : List ℕ) (m : ℕ) (closed : IsClosed n links) (w : ArePassed n links positions m) (inside : m < length links) where
  pub new : slice_index positions (start_at links m) ≡ 0
  new = go (cases_eq m 0)
    where
      go : (m ≡ 0) ⊎ (m ≡ 0 → ⊥) → slice_index positions (start_at links m) ≡ 0
      go (inl first) = by_noted (cases_lt 0 (slice_index positions (start_at links m)))
        where
          by_noted : (0 < slice_index positions (start_at links m)) ⊎ (slice_index positions (start_at links m) ≤ 0)
              → slice_index positions (start_at links m) ≡ 0
          by_noted (inl some) = absurd (omega (arith, (w.noted (start_at links m) some).0, first, some))
          by_noted (inr none) = omega (arith, none)
      go (inr later) =
          let e : m - 1 + 1 ≡ m = omega (arith, later) in
          let at : end_at links (m - 1) ≡ start_at links m
          = subst (λ (z : ℕ). end_at links (m - 1) ≡ start_at links z) e (closed.joined (m - 1) (omega (arith, later, inside))) in
          subst (λ (z : ℕ). slice_index positions z ≡ 0) at (w.ahead (omega (arith, later)))

  room : start_at links m < length positions
  room = omega (arith, closed.below m inside, w.long)

  numbered : AreNumbered positions (m + 1)
  numbered zero some below = absurd (omega (arith, some))
  numbered (suc r) some below = (start_at links r, omega (arith, w.kept r (omega (arith, below))))

  pub passed_room : m < n
  passed_room =
      omega (
        arith,
        numbered_room (set positions (start_at links m) (m + 1)) (m + 1 + 1) (numbered_more positions (m + 1) (start_at links m) room new numbered),
        length-set positions (start_at links m) (m + 1),
        w.long,
      )

  kept : (i : ℕ) → i < m + 1 → slice_index (set positions (start_at links m) (m + 1)) (start_at links i) ≡ i + 1
  kept =
      below_more (λ i. slice_index (set positions (start_at links m) (m + 1)) (start_at links i) ≡ i + 1) m
      (λ i less. let other : start_at links i ≢ start_at links m
      = λ same. absurd (omega (arith, w.kept i less, new, ap (λ z. slice_index positions z) same)) in
      get_or-set_other positions (start_at links m) (start_at links i) (m + 1) 0 other ∙ w.kept i less)
      (get_or-set_same positions (start_at links m) (m + 1) 0 room)

  noted : (v : ℕ) → 0 < slice_index (set positions (start_at links m) (m + 1)) v
      → (slice_index (set positions (start_at links m) (m + 1)) v ≤ m + 1)
      × (start_at links (slice_index (set positions (start_at links m) (m + 1)) v - 1) ≡ v)
  noted v some = go (cases_eq v (start_at links m))
    where
      go : (v ≡ start_at links m) ⊎ (v ≡ start_at links m → ⊥)
          → (slice_index (set positions (start_at links m) (m + 1)) v ≤ m + 1)
          × (start_at links (slice_index (set positions (start_at links m) (m + 1)) v - 1) ≡ v)
      go (inl same) =
          let is : slice_index (set positions (start_at links m) (m + 1)) v ≡ m + 1
          = ap (λ z. slice_index (set positions (start_at links m) (m + 1)) z) same ∙ get_or-set_same positions (start_at links m) (m + 1) 0 room in
          let at : m ≡ slice_index (set positions (start_at links m) (m + 1)) v - 1 = omega (arith, is) in
          (omega (arith, is), subst (λ (z : ℕ). start_at links z ≡ v) at (sym same))
      go (inr apart) =
          let is : slice_index (set positions (start_at links m) (m + 1)) v ≡ slice_index positions v
          = get_or-set_other positions (start_at links m) v (m + 1) 0 apart in
          let before = w.noted v (omega (arith, some, is)) in
          let at : slice_index positions v - 1 ≡ slice_index (set positions (start_at links m) (m + 1)) v - 1 = omega (arith, is) in
          (omega (arith, is, before.0), subst (λ (z : ℕ). start_at links z ≡ v) at before.1)

  -- what the code looks at: the link, where it starts and ends, the positions with that of its start, and among them that of its end
  module _ (link : Link) (start end before : ℕ) (with_start : List ℕ) (is : link ≡ get_or links m link) (starts : start ≡ link_from link)
      (ends : end ≡ link_to link) (sets : with_start ≡ set positions start (m + 1)) (gets : before ≡ slice_index with_start end) where
    more : with_start ≡ set positions (start_at links m) (m + 1)
    more = sets ∙ ap (λ (z : ℕ). set positions z (m + 1)) (starts ∙ start_is links link m inside is)

    at_end : before ≡ slice_index (set positions (start_at links m) (m + 1)) (end_at links m)
    at_end =
        gets ∙ (ap (λ (z : List ℕ). slice_index z end) more
        ∙ ap (λ (z : ℕ). slice_index (set positions (start_at links m) (m + 1)) z) (ends ∙ end_is links link m inside is))

    pub passed_more : before ≡ 0 → ArePassed n links with_start (m + 1)
    passed_more none = subst (λ (z : List ℕ). ArePassed n links z (m + 1)) (sym more) (record {
      long = length-set positions (start_at links m) (m + 1) ∙ w.long;
      kept = kept;
      noted = noted;
      ahead = λ some. let e : m ≡ m + 1 - 1 = omega arith in
          subst (λ (z : ℕ). slice_index (set positions (start_at links m) (m + 1)) (end_at links z) ≡ 0) e (sym at_end ∙ none);
    })

    pub passed_back : 0 < before → IsFirstReturn links (before - 1) (m + 1)
    passed_back some =
        let at = noted (end_at links m) (omega (arith, at_end, some)) in
        let e : m ≡ m + 1 - 1 = omega arith in
        subst (λ (z : ℕ). IsFirstReturn links (z - 1) (m + 1)) (sym at_end) (record {
          some = omega (arith, at.0, at_end, some);
          inside = omega (arith, inside);
          back = subst (λ (z : ℕ). end_at links z ≡ start_at links (slice_index (set positions (start_at links m) (m + 1)) (end_at links m) - 1)) e (sym at.1);
          apart = λ i k less below same. omega (
            arith,
            kept i (omega (arith, less, below)),
            kept k below,
            ap (λ z. slice_index (set positions (start_at links m) (m + 1)) z) same,
            less,
          );
        })

-- where none costs less than four steps, one of four steps is a least one
pub least_of_four : (j : Judged) (links : List Link) → NoneBelow j 4 → cost links ≤ 4 → AreCycle j links → AreLeast j links
least_of_four j links none cheap (s, cycle) =
    (s, record { cycle = cycle; least = λ t others other. omega (arith, none t others other, cheap) })

-- and none costs at most three, so nothing more is required
pub not_short : (j : Judged) (links : List Link) → NoneBelow j 4 → AreCycle j links → IsFirstIfShort j links
not_short j links none (s, cycle) low = absurd (omega (arith, none s links cycle, low))
