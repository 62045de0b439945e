-- Sorting and removing repeats gives what inserting in order gives.
use Rattle.std.proofs.Common.{◌≡◌, Bool, true, false, cond, ◌||◌, List, [], ◌∷◌, refl, ap, sym, ◌∙◌}
use Rattle.std.proofs.lemmas.Map.Lookups.{btree_set_from_contains}
use Rattle.std.proofs.lemmas.Map.Views.{tells_apart}
use Rattle.std.proofs.lemmas.List.Kept.{IsStrictlySortedBy-dedup}
use Rattle.std.proofs.lemmas.List.Sorted.{list_any-IsPermutation}
use Rattle.std.specs.List.{AllByRecursion, dedup, dedup_from, list_any}
use Rattle.std.specs.List.Sorted.{IsPermutation, IsSorted, IsStrictlySortedBy}
use Rattle.std.specs.Cmp.{IsTotalOrder}
use Rattle.std.specs.Ordering.{eq_by_cmp, match_ordering, ordering_reverse}
use Rattle.std.specs.BTreeSet.{insert_key}
use Rattle.std.specs.declared.cmp.Ordering.{Ordering}
use Rattle.std.specs.declared.cmp.Ordering.TheVariants.{Less, Equal, Greater}
use Rattle.tcc_txn.proofs.Lists.{or_swap}
use Rattle.tcc_reads.specs.Sources.{sorted_once}
use Rattle.tcc_reads.specs.private.Sorting.{TellsApart}

or_same : (a b c : Bool) → a ≡ b → (b || c) ≡ (a || (b || c))
or_same true true c e = refl
or_same false b c e = refl
or_same true false c e = cc

module _ {K : Type 0} {R : K → K → Ordering} (o : IsTotalOrder R) where
  -- keys above a key are above each key below it
  above : (k x : K) → R k x ≡ Less → (xs : List K) → AllByRecursion (λ y. R x y ≡ Less) xs → AllByRecursion (λ y. R k y ≡ Less) xs
  above k x below [] all = tt
  above k x below (y ∷ ys) all = (o.trans k x y below all.0, above k x below ys all.1)

  all_inserted : (P : K → Type 0) (k : K) → P k → (xs : List K) → AllByRecursion P xs → AllByRecursion P (insert_key R xs k)
  all_inserted P k p [] all = (p, tt)
  all_inserted P k p (x ∷ xs) all =
      elim (R k x) as (λ r. AllByRecursion P (match_ordering r (k ∷ x ∷ xs) (x ∷ xs) (x ∷ insert_key R xs k))) [
        | Less ↦ (p, all)
        | Equal ↦ all
        | Greater ↦ (all.0, all_inserted P k p xs all.1)
      ]

  inserted_sorted : (k : K) (xs : List K) → IsStrictlySortedBy R xs → IsStrictlySortedBy R (insert_key R xs k)
  unfolding IsStrictlySortedBy
  inserted_sorted k [] s = (tt, tt)
  inserted_sorted k (x ∷ xs) s =
      (elim (R k x) as (λ r. R k x ≡ r → IsStrictlySortedBy R (match_ordering r (k ∷ x ∷ xs) (x ∷ xs) (x ∷ insert_key R xs k))) [
        | Less ↦ λ is. ((is, above k x is xs s.0), s)
        | Equal ↦ λ is. s
        | Greater ↦ λ is. (all_inserted (λ y. R x y ≡ Less) k (o.antisymm x k ∙ ap ordering_reverse is) xs s.0, inserted_sorted k xs s.1)
      ]) refl

  -- each item is below the next
  pub once_sorted : (xs : List K) → IsStrictlySortedBy R (sorted_once R xs)
  unfolding IsStrictlySortedBy
  once_sorted [] = tt
  once_sorted (x ∷ xs) = inserted_sorted x (sorted_once R xs) (once_sorted xs)

  module _ (exact : TellsApart R) where
    -- whether some key passes, after one more key
    pub any_inserted : (p : K → Bool) (k : K) (xs : List K) → list_any p (insert_key R xs k) ≡ (p k || list_any p xs)
    any_inserted p k [] = refl
    any_inserted p k (x ∷ xs) =
        (elim (R k x) as (λ r. R k x ≡ r → list_any p (match_ordering r (k ∷ x ∷ xs) (x ∷ xs) (x ∷ insert_key R xs k)) ≡ (p k || (p x || list_any p xs))) [
          | Less ↦ λ is. refl
          | Equal ↦ λ is. or_same (p k) (p x) (list_any p xs) (ap p (exact k x is))
          | Greater ↦ λ is. ap (λ b. p x || b) (any_inserted p k xs) ∙ or_swap (p x) (p k) (list_any p xs)
        ]) refl

    -- the sorted items without repeats are the same items
    pub any_once : (p : K → Bool) (xs : List K) → list_any p (sorted_once R xs) ≡ list_any p xs
    any_once p [] = refl
    any_once p (x ∷ xs) = any_inserted p x (sorted_once R xs) ∙ ap (λ b. p x || b) (any_once p xs)

    any_dedup_from : {E : K → K → Bool} → ((x y : K) → E x y ≡ eq_by_cmp R x y) → (p : K → Bool) (k : K) (xs : List K)
        → (p k || list_any p xs) ≡ list_any p (dedup_from E k xs)
    any_dedup_from {E} ties p k [] = refl
    any_dedup_from {E} ties p k (x ∷ xs) =
        (elim (E x k) as (λ b. E x k ≡ b → (p k || (p x || list_any p xs)) ≡ list_any p (cond b (dedup_from E k xs) (k ∷ dedup_from E x xs))) [
          | true ↦ λ e.
              let same : x ≡ k = tells_apart exact x k (sym (ties x k) ∙ e) in
              sym (or_same (p k) (p x) (list_any p xs) (ap p (sym same))) ∙ ap (λ y. p y || list_any p xs) same ∙ any_dedup_from ties p k xs
          | false ↦ λ e. ap (λ b. p k || b) (any_dedup_from ties p x xs)
        ]) refl

    any_dedup : {E : K → K → Bool} → ((x y : K) → E x y ≡ eq_by_cmp R x y) → (p : K → Bool) (xs : List K) → list_any p (dedup E xs) ≡ list_any p xs
    any_dedup ties p [] = refl
    any_dedup ties p (x ∷ xs) = sym (any_dedup_from ties p x xs)

    -- what a sort and a `dedup` leave
    pub sorted_deduped : {E : K → K → Bool} → ((x y : K) → E x y ≡ eq_by_cmp R x y) → (xs ys : List K) → IsPermutation xs ys → IsSorted R ys
        → dedup E ys ≡ sorted_once R xs
    sorted_deduped {E} ties xs ys moved sorts =
        btree_set_from_contains o (record { keys = dedup E ys }) (record { keys = sorted_once R xs })
        (IsStrictlySortedBy-dedup o ties ys sorts)
        (once_sorted xs)
        (λ q. any_dedup ties (eq_by_cmp R q) ys ∙ sym (list_any-IsPermutation (eq_by_cmp R q) xs ys moved) ∙ sym (any_once (eq_by_cmp R q) xs))
        exact
