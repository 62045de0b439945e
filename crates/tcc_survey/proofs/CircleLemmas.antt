-- Back along causal pairs over what has no place in an order, until one comes again.
use Rattle.std.proofs.Common.{◌≡◌, ◌≢◌, ◌<◌, ◌≤◌, ◌+◌, ◌-◌, ◌==◌, ◌||◌, ℕ, Bool, true, false, eqb, zero, suc, List, [], ◌∷◌, ◌++◌, ◌⊎◌, inl, inr, map, replicate, length, length-append, get_or, set, drop, refl, sym, ap, subst, arith, ◌∙◌}
use Rattle.std.specs.List.{All, Contains, list_any}
use Rattle.std.proofs.lemmas.Bool.{cases_lt, cases_eq, false≢true, eq-eqb, eqb-true, ne_eqb, or_cases, or_left, or_right}
use Rattle.std.proofs.Math.Bool.{or-false}
use Rattle.std.proofs.lemmas.List.{get_or_append_left, get_or_default, get_or_push, get_or-set_same, get_or-set_other, length-set, get_or-drop, length-drop, get_or-replicate, length-replicate}
use Rattle.std.proofs.lemmas.List.Elements.{All-append, Contains-get_or, Contains-append_cases}
use Rattle.std.proofs.lemmas.List.Folds.{list_any-append}
use Rattle.std.proofs.lemmas.Map.Keys.{IsDistinct-from_apart}
use Rattle.std.proofs.lemmas.Map.Steps.{length-le_from_distinct_below}
use Rattle.tcc_txn.proofs.Lists.{found_number, from_map, number_found}
use Rattle.tcc_reads.specs.History.{History, count, entry_at}
use Rattle.tcc_graph.specs.Keys.{key_at}
use Rattle.tcc_graph.specs.Relations.{IsCausalPair}
use Rattle.tcc_bits.specs.Bits.{is_marked}
use Rattle.tcc_clocks.specs.Parents.{parents, previous, previous_one, sources}
use Rattle.tcc_clocks.proofs.LatestLemmas.{sources_of_reads}
use Rattle.tcc_clocks.proofs.Reaching.{parent_one}
use Rattle.tcc_order.specs.Placements.{ArePairsStuck}
use Rattle.tcc_survey.specs.Circles.{IsCircle}
use Rattle.tcc_survey.specs.private.Circling.{IsTrail}

below_of : (xs : List ℕ) (n : ℕ) → All (λ t. t < n) xs → (q : ℕ) → list_any (eqb q) xs ≡ true → q < n
below_of [] n all q h = absurd (false≢true h)
below_of (x ∷ xs) n all q h = go (below_of xs n (λ k d l. all (suc k) d (omega (arith, l))) q) (or_cases (eqb q x) (list_any (eqb q) xs) h)
  where
    go : (list_any (eqb q) xs ≡ true → q < n) → (eqb q x ≡ true) ⊎ (list_any (eqb q) xs ≡ true) → q < n
    go rest (inl e) = subst (λ (z : ℕ). z < n) (sym (eqb-true q x e)) (all 0 x (omega arith))
    go rest (inr r) = rest r

one_below : (n t : ℕ) → t < n → All (λ s. s < n) (t ∷ [])
one_below n t below zero d l = below
one_below n t below (suc k) d l = absurd (omega (arith, l))

-- numbers below n of which none comes twice are n at most
few_apart : (xs : List ℕ) (n : ℕ) → All (λ t. t < n) xs → ((i k : ℕ) → i < k → k < length xs → get_or xs i 0 ≢ get_or xs k 0) → length xs ≤ n
few_apart xs n all once =
    length-le_from_distinct_below xs n (IsDistinct-from_apart eqb xs (λ i k d less within.
    ne_eqb (get_or xs i d) (get_or xs k d) (λ same.
    once i k less within (get_or_default xs i 0 d (omega (arith, less, within)) ∙ (same ∙ get_or_default xs k d 0 within))))) (below_of xs n all)

module _ (h : History) (placed : List ℕ) (seen : List Bool) (trail : List ℕ) (at : ℕ) (is : IsTrail h placed seen trail at) where
  pub trail_short : length trail ≤ count h
  trail_short = few_apart trail (count h) is.inside is.once

  module _ (new : get_or seen at false ≡ false) where
    apart : Contains trail at → ⊥
    apart there = false≢true (sym new ∙ (is.marks at is.below ∙ number_found trail at there))

    module _ (next : ℕ) (below : next < count h) (left : is_marked placed next ≡ false) (pair : IsCausalPair h next at) where
      longer : length (trail ++ at ∷ []) ≡ length trail + 1
      longer = length-append trail (at ∷ [])

      kept : (k : ℕ) → k < length trail → get_or (trail ++ at ∷ []) k 0 ≡ get_or trail k 0
      kept k l = get_or_append_left trail (at ∷ []) 0 k l

      at_end : (k : ℕ) → k ≡ length trail → get_or (trail ++ at ∷ []) k 0 ≡ at
      at_end k e = get_or_push trail at 0 k (sym e)

      each : (k : ℕ) → k + 1 < length (trail ++ at ∷ []) → IsCausalPair h (get_or (trail ++ at ∷ []) (k + 1) 0) (get_or (trail ++ at ∷ []) k 0)
      each k l = go (cases_lt (k + 1) (length trail))
        where
          go : (k + 1 < length trail) ⊎ (length trail ≤ k + 1) → IsCausalPair h (get_or (trail ++ at ∷ []) (k + 1) 0) (get_or (trail ++ at ∷ []) k 0)
          go (inl within) = rw (kept (k + 1) within, kept k (omega arith)) (is.each k within)
          go (inr past) =
              let here : k + 1 ≡ length trail = omega (arith, longer) in
              let before : length trail - 1 ≡ k = omega (arith, here) in
              rw (at_end (k + 1) here, kept k (omega arith)) (subst (λ (m : ℕ). IsCausalPair h at (get_or trail m 0)) before (is.next (omega (arith, here))))

      once : (i k : ℕ) → i < k → k < length (trail ++ at ∷ []) → get_or (trail ++ at ∷ []) i 0 ≢ get_or (trail ++ at ∷ []) k 0
      once i k less within = go (cases_lt k (length trail))
        where
          go : (k < length trail) ⊎ (length trail ≤ k) → get_or (trail ++ at ∷ []) i 0 ≢ get_or (trail ++ at ∷ []) k 0
          go (inl inside) same = is.once i k less inside (sym (kept i (omega (arith, less, inside))) ∙ (same ∙ kept k inside))
          go (inr past) same =
              let here : k ≡ length trail = omega (arith, within, longer, past) in
              let short : i < length trail = omega (arith, less, here) in
              apart (subst (Contains trail) (sym (kept i short) ∙ (same ∙ at_end k here)) (Contains-get_or trail i 0 short))

      seen_more : (t : ℕ) → t < count h → get_or (set seen at true) t false ≡ list_any (λ s. s == t) (trail ++ at ∷ [])
      seen_more t small = rw (list_any-append (λ s. s == t) trail (at ∷ [])) (go (cases_eq t at))
        where
          go : (t ≡ at) ⊎ (t ≢ at) → get_or (set seen at true) t false ≡ (list_any (λ s. s == t) trail || list_any (λ s. s == t) (at ∷ []))
          go (inl same) =
              rw (same, get_or-set_same seen at true false (omega (arith, is.long, is.below)))
              (sym (or_right (list_any (λ s. s == at) trail) (list_any (λ s. s == at) (at ∷ [])) (or_left (at == at) false (eq-eqb at at refl))))
          go (inr other) =
              let no : (at == t) ≡ false = ne_eqb at t (λ e. other (sym e)) in
              rw (get_or-set_other seen at t true false other, no, or-false (list_any (λ s. s == t) trail)) (is.marks t small)

      pub trail_more : IsTrail h placed (set seen at true) (trail ++ at ∷ []) next
      trail_more = record {
        inside = All-append (λ t. t < count h) trail (at ∷ []) is.inside (one_below (count h) at is.below);
        each = each;
        once = once;
        below = below;
        left = left;
        next = λ some. subst (IsCausalPair h next) (sym (at_end (length (trail ++ at ∷ []) - 1) (omega (arith, longer)))) pair;
        long = length-set seen at true ∙ is.long;
        marks = seen_more;
      }

  module _ (old : get_or seen at false ≡ true) where
    pub comes_again : Contains trail at
    comes_again = found_number trail at (sym (is.marks at is.below) ∙ old)

    module _ (start : ℕ) (within : start < length trail) (here : get_or trail start 0 ≡ at) where
      cut : length (drop start trail) ≡ length trail - start
      cut = length-drop start trail

      turned : (k : ℕ) → get_or (drop start trail) k 0 ≡ get_or trail (start + k) 0
      turned k = get_or-drop start trail k 0

      pub trail_circle : IsCircle h (drop start trail)
      trail_circle = record {
        some = omega (arith, cut, within);
        each = λ k l.
            let more : (start + k) + 1 < length trail = omega (arith, l, cut) in
            let same : start + (k + 1) ≡ (start + k) + 1 = omega arith in
            rw (turned (k + 1), turned k, same) (is.each (start + k) more);
        closed =
            let last : start + (length (drop start trail) - 1) ≡ length trail - 1 = omega (arith, cut, within) in
            let first : start + 0 ≡ start = omega arith in
            rw (turned 0, turned (length (drop start trail) - 1), last, first, here) (is.next (omega (arith, within)));
        once = λ i k less short same.
            is.once (start + i) (start + k) (omega (arith, less)) (omega (arith, short, cut)) (sym (turned i) ∙ (same ∙ turned k));
      }

pub trail_none : (h : History) (placed : List ℕ) (seen : List Bool) (at n : ℕ) → n ≡ count h → seen ≡ replicate n false → at < count h
    → is_marked placed at ≡ false → IsTrail h placed seen [] at
trail_none h placed seen at n size none below left = record {
  inside = λ k d l. absurd (omega (arith, l));
  each = λ k l. absurd (omega (arith, l));
  once = λ i k less l. absurd (omega (arith, l));
  below = below;
  left = left;
  next = λ l. absurd (omega (arith, l));
  long = ap (λ (z : List Bool). length z) none ∙ (length-replicate {A = Bool} n false ∙ size);
  marks = λ t small. ap (λ (z : List Bool). get_or z t false) none ∙ get_or-replicate {A = Bool} n t false false (omega (arith, small, size));
}

-- ---- who holds a transaction back
held_by : (h : History) (placed : List ℕ) (c : ℕ) → (0 < c → is_marked placed (previous h c) ≡ true)
    → ((b : ℕ) → Contains (sources h c) b → is_marked placed b ≡ false → ⊥) → (b : ℕ) → is_marked placed b ≡ false → Contains (parents h c) b → ⊥
held_by h placed c known none b left there = go (Contains-append_cases (previous_one h c) (sources h c) b there)
  where
    go : Contains (previous_one h c) b ⊎ Contains (sources h c) b → ⊥
    go (inl one) =
        let w = parent_one h c b one in
        false≢true (sym left ∙ (ap (is_marked placed) w.1 ∙ known w.0))
    go (inr source) = none b source left

pub one_held : (h : History) (placed : List ℕ) (c : ℕ) → ArePairsStuck h placed → c < count h → is_marked placed c ≡ false
    → (0 < c → is_marked placed (previous h c) ≡ true) → ((b : ℕ) → Contains (sources h c) b → is_marked placed b ≡ false → ⊥) → ⊥
one_held h placed c stuck below left known none =
    let w = stuck.held c below left in
    held_by h placed c known none w.0 w.2 w.3

pub none_left : (h : History) (placed : List ℕ) (c : ℕ) (items : List (ℕ × ℕ)) → map (λ read. (key_at h read.0, read.1)) items ≡ (entry_at h c).reads
    → (n : ℕ) → length items ≤ n → ((k : ℕ) → k < n → is_marked placed (get_or items k (0, 0)).1 ≡ true)
    → (b : ℕ) → Contains (sources h c) b → is_marked placed b ≡ false → ⊥
none_left h placed c items value n past known b there left =
    let w = from_map (λ (read : ℕ × ℕ). read.1) items b (subst (λ (xs : List ℕ). Contains xs b) (sym (sources_of_reads h c items value)) there) in
    go w.0 w.1 w.2
  where
    go : (r : ℕ × ℕ) → Contains items r → r.1 ≡ b → ⊥
    go r (k, l, e) same =
        let here : ◌≡◌ {A = ℕ × ℕ} (get_or items k (0, 0)) r = get_or_default items k (0, 0) r l ∙ e in
        let at : (get_or items k (0, 0)).1 ≡ b = ap (λ (p : ℕ × ℕ). p.1) here ∙ same in
        false≢true (sym left ∙ subst (λ (z : ℕ). is_marked placed z ≡ true) at (known k (omega (arith, l, past))))
