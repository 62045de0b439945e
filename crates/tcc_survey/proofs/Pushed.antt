-- A list with one item more at its end.
use Rattle.std.proofs.Common.{◌≡◌, ◌<◌, ◌≤◌, ◌⊎◌, inl, inr, ℕ, List, [], ◌∷◌, ◌++◌, length, length-append, get_or, sym, subst, arith}
use Rattle.std.proofs.lemmas.Bool.{cases_lt}
use Rattle.std.proofs.lemmas.List.{get_or_append_left, get_or_at}

module _ {A : Type 0} (xs : List A) (x d : A) where
  pub pushed_early : (k : ℕ) → k < length xs → get_or (xs ++ x ∷ []) k d ≡ get_or xs k d
  pushed_early k l = get_or_append_left xs (x ∷ []) d k l

  pub pushed_last : (k : ℕ) → length xs ≡ k → get_or (xs ++ x ∷ []) k d ≡ x
  pushed_last k e = get_or_at xs x [] d k e

  -- what holds of each so far, and of the new one
  pub pushed_all : (P : A → Type 0) → ((k : ℕ) → k < length xs → P (get_or xs k d)) → P x → (k : ℕ) → k < length (xs ++ x ∷ []) → P (get_or (xs ++ x ∷ []) k d)
  pushed_all P before new k l = go (cases_lt k (length xs))
    where
      go : (k < length xs) ⊎ (length xs ≤ k) → P (get_or (xs ++ x ∷ []) k d)
      go (inl less) = subst P (sym (pushed_early k less)) (before k less)
      go (inr more) = subst P (sym (pushed_last k (omega (arith, l, more, length-append xs (x ∷ []))))) new

  -- those so far are in an order, and each of them to the new one
  pub pushed_order : (R : A → A → Type 0) → ((k l : ℕ) → k < l → l < length xs → R (get_or xs k d) (get_or xs l d)) → ((k : ℕ) → k < length xs → R (get_or xs k d) x)
      → (k l : ℕ) → k < l → l < length (xs ++ x ∷ []) → R (get_or (xs ++ x ∷ []) k d) (get_or (xs ++ x ∷ []) l d)
  pushed_order R before new k l less up = go (cases_lt l (length xs))
    where
      short : k < length xs
      short = omega (arith, less, up, length-append xs (x ∷ []))

      go : (l < length xs) ⊎ (length xs ≤ l) → R (get_or (xs ++ x ∷ []) k d) (get_or (xs ++ x ∷ []) l d)
      go (inl early) =
          subst (λ (a : A). R a (get_or (xs ++ x ∷ []) l d)) (sym (pushed_early k short))
          (subst (R (get_or xs k d)) (sym (pushed_early l early)) (before k l less early))
      go (inr late) =
          subst (λ (a : A). R a (get_or (xs ++ x ∷ []) l d)) (sym (pushed_early k short))
          (subst (R (get_or xs k d)) (sym (pushed_last l (omega (arith, late, up, length-append xs (x ∷ []))))) (new k short))
