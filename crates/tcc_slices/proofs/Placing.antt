-- Where a number stands among numbers that rise.
use Rattle.std.proofs.Common.{ℕ, ◌≡◌, ◌<◌, ◌≤◌, ◌==◌, ◌⊎◌, inl, inr, false, List, length, get_or, Ok, Err, sym, subst, arith}
use Rattle.std.specs.List.Sorted.{IsBinarySearchResult}
use Rattle.std.specs.Ordering.{nat_cmp}
use Rattle.std.proofs.lemmas.Bool.{cases_lt, eq-eqb, ne_eqb}
use Rattle.std.proofs.lemmas.List.Sorted.{searched}
use Rattle.std.proofs.lemmas.List.Sums.{position_or_len_is}
use Rattle.tcc_slices.specs.private.Carrying.{IsRising, place}

never_down : (numbers : List ℕ) → IsRising numbers → (i j : ℕ) → i ≤ j → j < length numbers → get_or numbers i 0 ≤ get_or numbers j 0
never_down numbers rising i j low below = go (cases_lt i j)
  where
    go : (i < j) ⊎ (j ≤ i) → get_or numbers i 0 ≤ get_or numbers j 0
    go (inl less) = omega (arith, rising i j less below)
    go (inr last) = let same : i ≡ j = omega (arith, last, low) in subst (λ (z : ℕ). get_or numbers i 0 ≤ get_or numbers z 0) same (omega arith)

module _ (numbers : List ℕ) (n : ℕ) (rising : IsRising numbers) where
  other : (k : ℕ) → (get_or numbers k 0 ≡ n → ⊥) → (get_or numbers k 0 == n) ≡ false
  other k not = ne_eqb (get_or numbers k 0) n not

  pub place_is : (i : ℕ) → i < length numbers → get_or numbers i 0 ≡ n → i ≡ place numbers n
  place_is i inside here =
      sym (position_or_len_is (λ m. m == n) numbers i 0 (omega (arith, inside))
      (λ k less. other k (λ same. absurd (omega (arith, rising k i less inside, same, here))))
      (λ _. eq-eqb (get_or numbers i 0) n here))

  pub place_none : ((k : ℕ) → k < length numbers → get_or numbers k 0 ≡ n → ⊥) → length numbers ≡ place numbers n
  place_none none =
      sym (position_or_len_is (λ m. m == n) numbers (length numbers) 0 (omega arith) (λ k less. other k (none k less)) (λ less. absurd (omega (arith, less))))

  pub placed_found : (i : ℕ) → IsBinarySearchResult (λ y. nat_cmp y n) numbers (Ok i) → i ≡ place numbers n
  placed_found i searching = let w = searched numbers n (Ok i) searching (never_down numbers rising) in place_is i w.0 w.1

  pub placed_none : (i : ℕ) → IsBinarySearchResult (λ y. nat_cmp y n) numbers (Err i) → length numbers ≡ place numbers n
  placed_none i searching = place_none none
    where
      w : (i ≤ length numbers) × ((k : ℕ) → k < i → get_or numbers k 0 < n) × ((k : ℕ) → i ≤ k → k < length numbers → n < get_or numbers k 0)
      w = searched numbers n (Err i) searching (never_down numbers rising)

      none : (k : ℕ) → k < length numbers → get_or numbers k 0 ≡ n → ⊥
      none k inside same = split (cases_lt k i)
        where
          split : (k < i) ⊎ (i ≤ k) → ⊥
          split (inl less) = omega (arith, w.1 k less, same)
          split (inr last) = omega (arith, w.2 k last inside, same)
