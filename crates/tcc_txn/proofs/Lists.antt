-- Lemmas on lists, truth values and results that std lacks, for every crate above.
-- - `whole`: a slice that a call overwrote in full, in its vector again
-- - `or_swap`: the first two of three truth values change places
-- - `matched`: what follows from a value, if there is one
-- - `found_number`: a number that a search finds is in the list
-- - `number_found`: a search finds each number of a list
-- - `in_filter`: an element that passes is kept
-- - `from_filter`: what is kept is an element, and passes
-- - `in_map`: the image of an element is one of the images
-- - `from_map`: each image is the image of an element
-- - `in_flat_map`: an element of a part is an element of the concatenated parts
-- - `from_flat_map`: an element of the concatenated parts is an element of some part
-- - in std: `or-false` (Math.Bool), `not-true`, `not-false`, `and_parts`, `or_parts` (lemmas.Bool), `Equal-is` (specs.Cmp),
--   `bytes_eq-Decides` (lemmas.Slice.Eq), `exact_bytes`, `exact_unsigned` (lemmas.Map.Lookups).
use Rattle.std.proofs.Common.{◌≡◌, ◌==◌, ◌⊎◌, ℕ, zero, suc, Bool, true, false, ◌||◌, inl, inr, List, []}
use Rattle.std.proofs.Common.{◌∷◌, ◌++◌, length, take, drop, filter, map, flat_map, cond, refl, sym, ap, ◌∙◌}
use Rattle.std.proofs.Common.{arith, subst}
use Rattle.std.specs.Prelude.{Ok, Err, IfOk, MatchResult}
use Rattle.std.specs.declared.result.Result.{Result}
use Rattle.std.specs.List.{Contains, list_any}
use Rattle.std.proofs.lemmas.Bool.{false≢true, or_cases, or_left, or_right, eqb-true, eq-eqb}
use Rattle.std.proofs.lemmas.Grind.{common_steps}
use Rattle.std.proofs.lemmas.List.Elements.{Contains-append_left, Contains-append_right, Contains-append_cases}

pub whole : {X : Type 0} (xs ys : List X) (n : ℕ) → length xs ≡ length ys → n ≡ length ys → take n (xs ++ drop (length xs) ys) ≡ xs
whole xs ys n same long = grind (arith, common_steps)

pub or_swap : (a b c : Bool) → (a || (b || c)) ≡ (b || (a || c))
or_swap true true c = refl
or_swap true false c = refl
or_swap false b c = refl

pub matched : {T E : Type 0} (r : Result T E) (P Q : T → Type 0) (R : E → Type 0) → MatchResult r P R → ((v : T) → P v → Q v) → IfOk r Q
matched (Ok v) P Q R h f = f v h
matched (Err e) P Q R h f = tt

pub found_number : (xs : List ℕ) (x : ℕ) → list_any (λ y. y == x) xs ≡ true → Contains xs x
found_number [] x h = absurd (false≢true h)
found_number (y ∷ xs) x h = go (found_number xs x) (or_cases (y == x) (list_any (λ z. z == x) xs) h)
  where
    go : (list_any (λ z. z == x) xs ≡ true → Contains xs x) → ((y == x) ≡ true) ⊎ (list_any (λ z. z == x) xs ≡ true) → Contains (y ∷ xs) x
    go rest (inl e) = (0, omega arith, eqb-true y x e)
    go rest (inr r) = let w = rest r in (suc w.0, omega (arith, w.1), w.2)

pub number_found : (xs : List ℕ) (x : ℕ) → Contains xs x → list_any (λ y. y == x) xs ≡ true
number_found [] x (k, l, e) = absurd (omega arith)
number_found (y ∷ xs) x (zero, l, e) = or_left _ _ (eq-eqb y x e)
number_found (y ∷ xs) x (suc k, l, e) = or_right _ _ (number_found xs x (k, omega arith, e))

later : {X : Type 0} (x y : X) (xs : List X) → Contains xs y → Contains (x ∷ xs) y
later x y xs (k, within, here) = (suc k, omega arith, here)

module _ {X : Type 0} (p : X → Bool) where
  pub in_filter : (xs : List X) (x : X) → Contains xs x → p x ≡ true → Contains (filter p xs) x
  in_filter [] x (k, l, e) t = absurd (omega arith)
  in_filter (y ∷ xs) x (zero, l, e) t = let here : p y ≡ true = ap p e ∙ t in rw here (0, omega arith, e)
  in_filter (y ∷ xs) x (suc k, l, e) t = go (p y) (in_filter xs x (k, omega arith, e) t)
    where
      go : (b : Bool) → Contains (filter p xs) x → Contains (cond b (y ∷ filter p xs) (filter p xs)) x
      go true w = later y x (filter p xs) w
      go false w = w

  pub from_filter : (xs : List X) (x : X) → Contains (filter p xs) x → Contains xs x × (p x ≡ true)
  from_filter [] x (k, l, e) = absurd (omega arith)
  from_filter (y ∷ xs) x c = go (p y) refl c (λ w. from_filter xs x w)
    where
      go : (b : Bool) → p y ≡ b → Contains (cond b (y ∷ filter p xs) (filter p xs)) x → (Contains (filter p xs) x → Contains xs x × (p x ≡ true))
          → Contains (y ∷ xs) x × (p x ≡ true)
      go true t (zero, l, e) rest = ((0, omega arith, e), ap p (sym e) ∙ t)
      go true t (suc k, l, e) rest = let w = rest (k, omega arith, e) in (later y x xs w.0, w.1)
      go false t c rest = let w = rest c in (later y x xs w.0, w.1)

module _ {X Y : Type 0} (f : X → Y) where
  pub in_map : (xs : List X) (x : X) → Contains xs x → Contains (map f xs) (f x)
  in_map [] x (k, l, e) = absurd (omega arith)
  in_map (y ∷ xs) x (zero, l, e) = (0, omega arith, ap f e)
  in_map (y ∷ xs) x (suc k, l, e) = later (f y) (f x) (map f xs) (in_map xs x (k, omega arith, e))

  pub from_map : (xs : List X) (y : Y) → Contains (map f xs) y → (x : X) × Contains xs x × (f x ≡ y)
  from_map [] y (k, l, e) = absurd (omega arith)
  from_map (x ∷ xs) y (zero, l, e) = (x, (0, omega arith, refl), e)
  from_map (x ∷ xs) y (suc k, l, e) = let w = from_map xs y (k, omega arith, e) in (w.0, later x w.0 xs w.1, w.2)

module _ {X Y : Type 0} (f : X → List Y) where
  pub in_flat_map : (xs : List X) (x : X) (y : Y) → Contains xs x → Contains (f x) y → Contains (flat_map f xs) y
  in_flat_map [] x y (k, l, e) h = absurd (omega arith)
  in_flat_map (z ∷ xs) x y (zero, l, e) h = Contains-append_left (f z) (flat_map f xs) y (subst (λ (w : X). Contains (f w) y) (sym e) h)
  in_flat_map (z ∷ xs) x y (suc k, l, e) h = Contains-append_right (f z) (flat_map f xs) y (in_flat_map xs x y (k, omega arith, e) h)

  pub from_flat_map : (xs : List X) (y : Y) → Contains (flat_map f xs) y → (x : X) × Contains xs x × Contains (f x) y
  from_flat_map [] y (k, l, e) = absurd (omega arith)
  from_flat_map (z ∷ xs) y h = go (from_flat_map xs y) (Contains-append_cases (f z) (flat_map f xs) y h)
    where
      go : (Contains (flat_map f xs) y → (x : X) × Contains xs x × Contains (f x) y) → Contains (f z) y ⊎ Contains (flat_map f xs) y
          → (x : X) × Contains (z ∷ xs) x × Contains (f x) y
      go rest (inl here) = (z, (0, omega arith, refl), here)
      go rest (inr there) = let w = rest there in (w.0, later z w.0 xs w.1, w.2)
