-- Of a list with more items than there are numbers for them, two have the same number.
use Rattle.std.proofs.Common.{ℕ, ◌≡◌, ◌≢◌, ◌<◌, ◌≤◌, ◌⊎◌, inl, inr, Bool, true, false, cond, List, [], ◌∷◌, ◌++◌, map, filter, length, refl, ap, arith, eqb}
use Rattle.std.specs.List.{IsDistinct, list_any, AllByRecursion}
use Rattle.std.proofs.lemmas.Bool.{cases_eq, ne_eqb}
use Rattle.std.proofs.lemmas.List.{length-map}
use Rattle.std.proofs.lemmas.Map.Steps.{length-le_from_distinct_below}

-- an item that passes the test, with this number
record HasSame {X : Type 0} (f : X → ℕ) (p : X → Bool) (n : ℕ) (xs : List X) : Type 0 where
  front : List X
  one : X
  rest : List X
  split : xs ≡ front ++ one ∷ rest
  same : n ≡ f one
  passes : p one ≡ true

-- two items that pass the test, with the same number
pub record HasTwice {X : Type 0} (f : X → ℕ) (p : X → Bool) (xs : List X) : Type 0 where
  pub front : List X
  pub one : X
  pub middle : List X
  pub other : X
  pub rest : List X
  pub split : xs ≡ front ++ one ∷ (middle ++ other ∷ rest)
  pub same : f one ≡ f other
  pub one_passes : p one ≡ true
  pub other_passes : p other ≡ true

-- the test that all pass
abbrev pub always : {X : Type 0} → X → Bool
always x = true

module _ {X : Type 0} (f : X → ℕ) (p : X → Bool) where
  later_same : (n : ℕ) (x : X) (xs : List X) → HasSame f p n xs → HasSame f p n (x ∷ xs)
  later_same n x xs later =
      record { front = x ∷ later.front; one = later.one; rest = later.rest; split = ap (λ zs. x ∷ zs) later.split; same = later.same; passes = later.passes }

  later_twice : (x : X) (xs : List X) → HasTwice f p xs → HasTwice f p (x ∷ xs)
  later_twice x xs t =
      record {
        front = x ∷ t.front;
        one = t.one;
        middle = t.middle;
        other = t.other;
        rest = t.rest;
        split = ap (λ zs. x ∷ zs) t.split;
        same = t.same;
        one_passes = t.one_passes;
        other_passes = t.other_passes;
      }

  Differ : ℕ → List X → Type 0
  Differ n xs = AllByRecursion (λ y. eqb n y ≡ false) (map f xs)

  find_same : (n : ℕ) (xs : List X) → HasSame f p n xs ⊎ Differ n (filter p xs)
  unfolding Differ
  find_same n [] = inr tt
  find_same n (x ∷ xs) = here (p x) refl (cases_eq n (f x)) (find_same n xs)
    where
      here : (b : Bool) → p x ≡ b → (n ≡ f x) ⊎ (n ≢ f x) → HasSame f p n xs ⊎ AllByRecursion (λ y. eqb n y ≡ false) (map f (filter p xs))
          → HasSame f p n (x ∷ xs) ⊎ AllByRecursion (λ y. eqb n y ≡ false) (map f (cond b (x ∷ filter p xs) (filter p xs)))
      here b e test (inl later) = inl (later_same n x xs later)
      here true e (inl same) (inr none) = inl (record { front = []; one = x; rest = xs; split = refl; same = same; passes = e })
      here true e (inr other) (inr none) = inr (ne_eqb n (f x) other, none)
      here false e test (inr none) = inr none

  distinct_or_twice : (xs : List X) → IsDistinct eqb (map f (filter p xs)) ⊎ HasTwice f p xs
  unfolding IsDistinct Differ
  distinct_or_twice [] = inl tt
  distinct_or_twice (x ∷ xs) = here (p x) refl (find_same (f x) xs) (distinct_or_twice xs)
    where
      here : (b : Bool) → p x ≡ b → HasSame f p (f x) xs ⊎ AllByRecursion (λ y. eqb (f x) y ≡ false) (map f (filter p xs))
          → IsDistinct eqb (map f (filter p xs)) ⊎ HasTwice f p xs → IsDistinct eqb (map f (cond b (x ∷ filter p xs) (filter p xs))) ⊎ HasTwice f p (x ∷ xs)
      here b e found (inr t) = inr (later_twice x xs t)
      here true e (inl s) (inl apart) =
          inr (record {
            front = [];
            one = x;
            middle = s.front;
            other = s.one;
            rest = s.rest;
            split = ap (λ zs. x ∷ zs) s.split;
            same = s.same;
            one_passes = e;
            other_passes = s.passes;
          })
      here true e (inr none) (inl apart) = inl (none, apart)
      here false e found (inl apart) = inl apart

  below_all : (n : ℕ) (xs : List X) → AllByRecursion (λ x. f x < n) xs → (q : ℕ) → list_any (eqb q) (map f (filter p xs)) ≡ true → q < n
  below_all n [] below q has = absurd cc
  below_all n (x ∷ xs) below q has = here (p x) (cases_eq q (f x)) (below_all n xs below.1 q) has
    where
      here : (b : Bool) → (q ≡ f x) ⊎ (q ≢ f x) → (list_any (eqb q) (map f (filter p xs)) ≡ true → q < n)
          → list_any (eqb q) (map f (cond b (x ∷ filter p xs) (filter p xs))) ≡ true → q < n
      here true (inl same) later found = omega (arith, below.0)
      here true (inr other) later found = later (rw (ne_eqb q (f x) other) at found)
      here false test later found = later found

  -- of items whose numbers are below n, those that pass are at most n, or two of them have the same
  pub counted_or_twice : (n : ℕ) (xs : List X) → AllByRecursion (λ x. f x < n) xs → (length (filter p xs) ≤ n) ⊎ HasTwice f p xs
  counted_or_twice n xs below = go (distinct_or_twice xs)
    where
      go : IsDistinct eqb (map f (filter p xs)) ⊎ HasTwice f p xs → (length (filter p xs) ≤ n) ⊎ HasTwice f p xs
      go (inl apart) = inl (omega (arith, length-map (filter p xs) f, length-le_from_distinct_below (map f (filter p xs)) n apart (below_all n xs below)))
      go (inr twice) = inr twice

all_pass : {X : Type 0} (xs : List X) → length (filter always xs) ≡ length xs
all_pass [] = refl
all_pass (x ∷ xs) = omega (arith, all_pass xs)

-- items whose numbers are below n are at most n, or two have the same
pub few_or_twice : {X : Type 0} (f : X → ℕ) (n : ℕ) (xs : List X) → AllByRecursion (λ x. f x < n) xs → (length xs ≤ n) ⊎ HasTwice f always xs
few_or_twice {X} f n xs below = go (counted_or_twice f always n xs below)
  where
    go : (length (filter always xs) ≤ n) ⊎ HasTwice f always xs → (length xs ≤ n) ⊎ HasTwice f always xs
    go (inl few) = inl (omega (arith, all_pass xs))
    go (inr twice) = inr twice
