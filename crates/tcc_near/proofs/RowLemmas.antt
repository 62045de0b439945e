-- Rows computed one by one.
use Rattle.std.proofs.Common.{◌≡◌, ◌<◌, ◌+◌, ◌-◌, ◌⊎◌, inl, inr, ℕ, zero, suc, List, [], ◌∷◌, ◌++◌, length, length-append, map, get_or, sym, ◌∙◌, ap, arith, subst, zero-add}
use Rattle.std.specs.Prelude.{Ok, IfOk}
use Rattle.std.specs.declared.result.Result.{Result}
use Rattle.std.specs.List.{AllZip, range_with_len}
use Rattle.rayon.specs.Numbers.{nat_range}
use Rattle.std.proofs.lemmas.Bool.{cases_eq}
use Rattle.std.proofs.lemmas.List.{length-map, get_or_append_left, get_or_push}
use Rattle.std.proofs.lemmas.List.FromFn.{get_or-range_with_len, length-range_with_len}
use Rattle.std.proofs.lemmas.Slice.Zip.{AllZip-long}

-- the numbers from zero to some end that is n
pub numbers_below : (start end n : ℕ) → start ≡ 0 → end ≡ n → nat_range start end ≡ range_with_len 0 n
numbers_below start end n from to =
    let whole : n - 0 ≡ n = omega arith in
    (λ i. nat_range (from i) (to i)) ∙ ap (range_with_len 0) whole

module _ {V : Type 0} (E : Type 0) (P : ℕ → V → Type 0) where
  abbrev values : List V → List (Result V E)
  values ys = map Ok ys

  zipped : (xs : List ℕ) (ys : List V) (i : ℕ) (d : V) → AllZip (λ x r. IfOk r (P x)) xs (values ys) → i < length ys → P (get_or xs i 0) (get_or ys i d)
  zipped [] [] i d h l = absurd (omega arith)
  zipped [] (y ∷ ys) i d h l = absurd h
  zipped (x ∷ xs) [] i d h l = absurd (omega arith)
  zipped (x ∷ xs) (y ∷ ys) zero d h l = h.0
  zipped (x ∷ xs) (y ∷ ys) (suc i) d h l = zipped xs ys i d h.1 (omega arith)

  -- what a call returned for each number below n, if each call returned a value
  pub each_given : (n : ℕ) (xs : List ℕ) (results : List (Result V E)) (items : List V) → xs ≡ range_with_len 0 n → AllZip (λ x r. IfOk r (P x)) xs results
      → ((ys : List V) × (results ≡ map Ok ys) × (items ≡ ys)) → (length items ≡ n) × ((i : ℕ) (d : V) → i < n → P i (get_or items i d))
  each_given n xs results items numbers given (ys, all, same) = (long, at)
    where
      zip : AllZip (λ x r. IfOk r (P x)) xs (values ys)
      zip = subst (λ (rs : List (Result V E)). AllZip (λ x r. IfOk r (P x)) xs rs) all given

      long : length items ≡ n
      long =
          ap length same ∙ (sym (length-map ys Ok) ∙ (AllZip-long (λ x r. IfOk r (P x)) xs (values ys) zip ∙ (ap length numbers ∙ length-range_with_len 0 n)))

      at : (i : ℕ) (d : V) → i < n → P i (get_or items i d)
      at i d l =
          let number : get_or xs i 0 ≡ i = ap (λ ns. get_or ns i 0) numbers ∙ (get_or-range_with_len 0 n i 0 l ∙ zero-add i) in
          let is = zipped xs ys i d zip (omega (arith, ap length same, long)) in
          subst (λ (j : ℕ). P j (get_or items i d)) number (subst (λ (zs : List V). P (get_or xs i 0) (get_or zs i d)) (sym same) is)

-- one more row at the end
pub each_pushed : {V : Type 0} (P : ℕ → V → Type 0) (items : List V) (v : V) (n : ℕ) → length items ≡ n → ((i : ℕ) (d : V) → i < n → P i (get_or items i d))
    → P n v → (i : ℕ) (d : V) → i < n + 1 → P i (get_or (items ++ v ∷ []) i d)
each_pushed P items v n long before here i d l = go (cases_eq i n)
  where
    go : (i ≡ n) ⊎ (i ≡ n → ⊥) → P i (get_or (items ++ v ∷ []) i d)
    go (inl same) = rw (same, get_or_push items v d n long) here
    go (inr other) =
        let inside : i < length items = omega arith in
        rw (get_or_append_left items (v ∷ []) d i inside) (before i d (omega arith))

-- the same, with how many there are
pub rows_pushed : {V : Type 0} (P : ℕ → V → Type 0) (items : List V) (v : V) (n : ℕ) → (length items ≡ n) × ((i : ℕ) (d : V) → i < n → P i (get_or items i d))
    → P n v → (length (items ++ v ∷ []) ≡ n + 1) × ((i : ℕ) (d : V) → i < n + 1 → P i (get_or (items ++ v ∷ []) i d))
rows_pushed P items v n so_far here = (omega (arith, length-append items (v ∷ []), so_far.0), each_pushed P items v n so_far.0 so_far.1 here)
