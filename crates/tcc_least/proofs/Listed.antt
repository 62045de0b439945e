-- Numbers that ascend, each with a value beside it.
use Rattle.std.proofs.Common.{ℕ, ◌<◌, ◌≤◌, ◌≡◌, ◌⊎◌, inl, inr, List, length, get_or, sym, ap, ◌∙◌, arith}
use Rattle.std.specs.Prelude.{zip}
use Rattle.std.specs.List.{Contains}
use Rattle.std.specs.List.Sorted.{IsNonDecreasing, IsStrictlySortedBy}
use Rattle.std.specs.Ordering.{nat_cmp, ordering_then}
use Rattle.std.specs.Cmp.{nat_cmp_is}
use Rattle.std.specs.declared.cmp.Ordering.{Ordering}
use Rattle.std.specs.declared.cmp.Ordering.TheVariants.{Less, Greater}
use Rattle.std.proofs.lemmas.Bool.{cases_lt}
use Rattle.std.proofs.lemmas.List.{get_or_default}
use Rattle.std.proofs.lemmas.List.Sorted.{IsNonDecreasingBy-from_default}
use Rattle.std.proofs.lemmas.Map.Keys.{Less-from_sorted}
use Rattle.std.proofs.lemmas.Slice.Zip.{get_or-zip, length-zip}
use Rattle.tcc_graph.specs.Relations.{by_number, AreInOrder}

module _ {X : Type 0} (cmp : X → X → Ordering) where
  by_rises : (p q : ℕ × X) → by_number cmp p q ≡ Less → p.0 ≤ q.0
  by_rises p q less = go (cases_lt q.0 p.0)
    where
      go : (q.0 < p.0) ⊎ (p.0 ≤ q.0) → p.0 ≤ q.0
      go (inr up) = up
      go (inl down) = absurd (apart (ap (λ o. ordering_then o (cmp p.1 q.1)) (nat_cmp_is p.0 q.0 Greater down) ∙ less))
        where
          apart : Greater ≡ Less → ⊥
          apart e = cc

module _ {X : Type 0} (numbers : List ℕ) (values : List X) (e : X) (long : length numbers ≡ length values) where
  zipped : length (zip numbers values) ≡ length numbers
  zipped = omega (arith, length-zip numbers values, long)

  pub pair_at : (k : ℕ) → k < length numbers → Contains (zip numbers values) (get_or numbers k 0, get_or values k e)
  pair_at k inside = (k, omega (arith, zipped), get_or-zip numbers values k (get_or numbers k 0, get_or values k e) inside (omega (arith, long)) ∙ both)
    where
      pair : ℕ → X → ℕ × X
      pair n v = (n, v)

      both : pair (get_or numbers k (get_or numbers k 0)) (get_or values k (get_or values k e)) ≡ pair (get_or numbers k 0) (get_or values k e)
      both = cc (get_or_default numbers k (get_or numbers k 0) 0 inside, get_or_default values k (get_or values k e) e (omega (arith, long)))

  pub at_pair : (a : ℕ) (v : X) → Contains (zip numbers values) (a, v) → (k : ℕ) × (k < length numbers) × (get_or numbers k 0 ≡ a) × (get_or values k e ≡ v)
  at_pair a v (k, within, is) =
      let inside : k < length numbers = omega (arith, zipped) in
      let other : k < length values = omega (arith, long) in
      let split = sym (get_or-zip numbers values k (a, v) inside other) ∙ is in (
        k,
        inside,
        get_or_default numbers k 0 a inside ∙ ap (λ (p : ℕ × X). p.0) split,
        get_or_default values k e v other ∙ ap (λ (p : ℕ × X). p.1) split,
      )

  pub rises : (cmp : X → X → Ordering) → AreInOrder cmp numbers values → IsNonDecreasing numbers
  rises cmp sorted = IsNonDecreasingBy-from_default (λ n. n) numbers 0 (λ i j low inside. go i j low inside (cases_lt i j))
    where
      go : (i j : ℕ) → i ≤ j → j < length numbers → (i < j) ⊎ (j ≤ i) → get_or numbers i 0 ≤ get_or numbers j 0
      go i j low inside (inr up) = let same : i ≡ j = omega arith in rw same (omega arith)
      go i j low inside (inl less) =
          let first = get_or-zip numbers values i (0, e) (omega arith) (omega (arith, long)) in
          let second = get_or-zip numbers values j (0, e) inside (omega (arith, long)) in
          let ordered = by_rises cmp (get_or (zip numbers values) i (0, e)) (get_or (zip numbers values) j (0, e))
          (Less-from_sorted (by_number cmp) (zip numbers values) i j (0, e) sorted less (omega (arith, zipped))) in
          rw (← ap (λ (p : ℕ × X). p.0) first, ← ap (λ (p : ℕ × X). p.0) second) ordered

pub ascending : (xs : List ℕ) → IsStrictlySortedBy nat_cmp xs → IsNonDecreasing xs
ascending xs sorted = IsNonDecreasingBy-from_default (λ n. n) xs 0 (λ i j low inside. go i j low inside (cases_lt i j))
  where
    go : (i j : ℕ) → i ≤ j → j < length xs → (i < j) ⊎ (j ≤ i) → get_or xs i 0 ≤ get_or xs j 0
    go i j low inside (inr up) = let same : i ≡ j = omega arith in rw same (omega arith)
    go i j low inside (inl less) = climb (cases_lt (get_or xs j 0) (get_or xs i 0))
      where
        climb : (get_or xs j 0 < get_or xs i 0) ⊎ (get_or xs i 0 ≤ get_or xs j 0) → get_or xs i 0 ≤ get_or xs j 0
        climb (inr up) = up
        climb (inl down) = absurd (apart (nat_cmp_is (get_or xs i 0) (get_or xs j 0) Greater down ∙ Less-from_sorted nat_cmp xs i j 0 sorted less inside))
          where
            apart : Greater ≡ Less → ⊥
            apart e = cc
