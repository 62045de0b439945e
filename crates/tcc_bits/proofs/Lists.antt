-- Two lists index by index, and what a list has up to an index.
use Rattle.std.proofs.Common.{◌≡◌, ◌<◌, ◌+◌, ◌⊎◌, ℕ, zero, suc, List, [], ◌∷◌, ◌++◌, length, get_or, take, refl, ◌∙◌, arith}
use Rattle.std.specs.Prelude.{zip}
use Rattle.std.specs.List.{Contains}
use Rattle.std.proofs.lemmas.List.{get_or_default, take_more}
use Rattle.std.proofs.lemmas.List.Elements.{Contains-append_left, Contains-push, Contains-push_cases}

pub zip_at : {X : Type 0} (rs : List ℕ) (xs : List X) (k e : ℕ) (d : X) → length rs ≡ length xs → k < length rs
    → get_or (zip rs xs) k (e, d) ≡ (get_or rs k e, get_or xs k d)
zip_at [] xs k e d same l = absurd (omega arith)
zip_at (r ∷ rs) [] k e d same l = absurd (omega arith)
zip_at (r ∷ rs) (x ∷ xs) zero e d same l = refl
zip_at (r ∷ rs) (x ∷ xs) (suc k) e d same l = zip_at rs xs k e d (omega arith) (omega arith)

pub zip-long : {X : Type 0} (rs : List ℕ) (xs : List X) → length rs ≡ length xs → length (zip rs xs) ≡ length rs
zip-long [] xs same = refl
zip-long (r ∷ rs) [] same = absurd (omega arith)
zip-long (r ∷ rs) (x ∷ xs) same = let rest = zip-long rs xs (omega arith) in omega arith

pub zip_has : {X : Type 0} (rs : List ℕ) (xs : List X) (k : ℕ) (d : X) → length rs ≡ length xs → k < length rs
    → Contains (zip rs xs) (get_or rs k 0, get_or xs k d)
zip_has rs xs k d same l =
    let r : ℕ = get_or rs k 0 in
    let x = get_or xs k d in
    let first : get_or rs k r ≡ r = get_or_default rs k r 0 l in
    let second : get_or xs k x ≡ x = get_or_default xs k x d (omega arith) in
    (k, omega (arith, zip-long rs xs same), zip_at rs xs k r x same l ∙ rw (first, second) refl)

-- ---- what a list has up to an index
pub nothing_in : {X : Type 0} (x : X) → Contains [] x → ⊥
nothing_in x (k, l, e) = omega arith

module _ (xs : List ℕ) (n : ℕ) (inside : n < length xs) where
  taken : take (n + 1) xs ≡ take n xs ++ get_or xs n 0 ∷ []
  taken = take_more xs n 0 inside

  pub one_of_taken : (y : ℕ) → Contains (take (n + 1) xs) y → Contains (take n xs) y ⊎ (get_or xs n 0 ≡ y)
  one_of_taken y h = Contains-push_cases (take n xs) (get_or xs n 0) y (rw taken at h)

  pub still_taken : (y : ℕ) → Contains (take n xs) y → Contains (take (n + 1) xs) y
  still_taken y h = rw taken (Contains-append_left (take n xs) (get_or xs n 0 ∷ []) y h)

  pub last_taken : Contains (take (n + 1) xs) (get_or xs n 0)
  last_taken = rw taken (Contains-push (take n xs) (get_or xs n 0))
