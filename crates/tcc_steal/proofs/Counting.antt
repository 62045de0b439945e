-- How often a number is in a list, and lists that have each number once.
use Rattle.std.proofs.Common.{◌≡◌, ◌≢◌, ◌<◌, ◌≤◌, ◌+◌, ◌==◌, ℕ, zero, suc, Bool, true, false, ◌⊎◌, inl, inr, List, [], ◌∷◌, ◌++◌, length, flat_map, Contains}
use Rattle.std.proofs.Common.{get_or, set, get_or-set_same, length-set, refl, sym, ◌∙◌, ap, arith}
use Rattle.std.proofs.lemmas.Bool.{cases_eq, eq-eqb, ne_eqb}
use Rattle.std.proofs.lemmas.List.{get_or_default}
use Rattle.std.proofs.lemmas.List.Elements.{All-contains, Contains-get_or}
use Rattle.tcc_graph.specs.Orders.{IsNumbering}
use Rattle.tcc_steal.specs.Steps.{without}

-- 1 where the test holds, else 0
abbrev pub one_if : Bool → ℕ
one_if true = 1
one_if false = 0

abbrev pub times : ℕ → List ℕ → ℕ
times x [] = 0
times x (y ∷ ys) = one_if (y == x) + times x ys

pub times_append : (x : ℕ) (xs ys : List ℕ) → times x (xs ++ ys) ≡ times x xs + times x ys
times_append x [] ys = omega arith
times_append x (y ∷ xs) ys = omega (arith, times_append x xs ys)

one_here : (x : ℕ) → one_if (x == x) ≡ 1
one_here x = ap one_if (eq-eqb x x refl)

pub times_here : (x : ℕ) (xs : List ℕ) → times x (x ∷ xs) ≡ 1 + times x xs
times_here x xs = omega (arith, one_here x)

pub other_here : (y x : ℕ) (xs : List ℕ) → (y ≡ x → ⊥) → times x (y ∷ xs) ≡ times x xs
other_here y x xs other = let none : one_if (y == x) ≡ 0 = ap one_if (ne_eqb y x other) in omega (arith, none)

pub times_in : (x : ℕ) (xs : List ℕ) → Contains xs x → 1 ≤ times x xs
times_in x [] (k, within, here) = absurd (omega arith)
times_in x (y ∷ xs) (zero, within, here) = let same : one_if (y == x) ≡ 1 = ap one_if (eq-eqb y x here) in omega (arith, same)
times_in x (y ∷ xs) (suc k, within, here) = omega (arith, times_in x xs (k, omega arith, here))

later : {X : Type 0} (x y : X) (xs : List X) → Contains xs y → Contains (x ∷ xs) y
later x y xs (k, within, here) = (suc k, omega arith, here)

pub in_times : (x : ℕ) (xs : List ℕ) → 1 ≤ times x xs → Contains xs x
in_times x [] some = absurd (omega (arith, some))
in_times x (y ∷ xs) some = go (cases_eq y x) (λ rest. in_times x xs rest)
  where
    go : (y ≡ x) ⊎ (y ≡ x → ⊥) → (1 ≤ times x xs → Contains xs x) → Contains (y ∷ xs) x
    go (inl same) rest = (0, omega arith, same)
    go (inr other) rest = let none : one_if (y == x) ≡ 0 = ap one_if (ne_eqb y x other) in later y x xs (rest (omega (arith, some, none)))

-- a number at two places is counted twice
pub times_twice : (x : ℕ) (xs : List ℕ) (i j : ℕ) → i < j → j < length xs → get_or xs i 0 ≡ x → get_or xs j 0 ≡ x → 2 ≤ times x xs
times_twice x [] i j less within one two = absurd (omega arith)
times_twice x (y ∷ xs) i zero less within one two = absurd (omega arith)
times_twice x (y ∷ xs) zero (suc j) less within one two =
    let same : one_if (y == x) ≡ 1 = ap one_if (eq-eqb y x one) in
    let inside : j < length xs = omega arith in
    omega (arith, same, times_in x xs (j, inside, get_or_default xs j x 0 inside ∙ two))
times_twice x (y ∷ xs) (suc i) (suc j) less within one two = omega (arith, times_twice x xs i j (omega arith) (omega arith) one two)

-- no two places have the same number
abbrev AreApart : List ℕ → Type 0
AreApart xs = (i j : ℕ) → i < j → j < length xs → get_or xs i 0 ≢ get_or xs j 0

pub times_once : (x : ℕ) (xs : List ℕ) → AreApart xs → times x xs ≤ 1
times_once x [] apart = omega arith
times_once x (y ∷ xs) apart = go (cases_eq y x) (times_once x xs (λ i j less within. apart (suc i) (suc j) (omega arith) (omega arith)))
  where
    go : (y ≡ x) ⊎ (y ≡ x → ⊥) → times x xs ≤ 1 → one_if (y == x) + times x xs ≤ 1
    go (inr other) rest = let none : one_if (y == x) ≡ 0 = ap one_if (ne_eqb y x other) in omega (arith, rest, none)
    go (inl same) rest = by (cases_eq (times x xs) 0)
      where
        by : (times x xs ≡ 0) ⊎ (times x xs ≡ 0 → ⊥) → one_if (y == x) + times x xs ≤ 1
        by (inl none) = let one : one_if (y == x) ≡ 1 = ap one_if (eq-eqb y x same) in omega (arith, none, one)
        by (inr some) =
            let (k, within, here) = in_times x xs (omega (arith, some)) in
            absurd (apart 0 (suc k) (omega arith) (omega arith) (same ∙ sym here ∙ get_or_default xs k x 0 within))

-- a list of some of the numbers of a numbering that has each is one
pub fewer : (n : ℕ) (xs ys : List ℕ) → IsNumbering n xs → ((x : ℕ) → times x ys ≤ times x xs) → ((a : ℕ) → a < n → Contains ys a) → IsNumbering n ys
fewer n xs ys is low each = record {
  below = λ i d within. let a =
      get_or ys i d in All-contains (λ a. a < n) xs a is.below (in_times a xs (omega (arith, low a, times_in a ys (Contains-get_or ys i d within))));
  each = each;
  once = λ i j less within same. let a = get_or ys j 0 in omega (arith, low a, times_once a xs is.once, times_twice a ys i j less within same refl);
}

-- a list that has each number as often as a numbering is one
pub renumbered : (n : ℕ) (xs ys : List ℕ) → IsNumbering n xs → ((x : ℕ) → times x ys ≡ times x xs) → IsNumbering n ys
renumbered n xs ys is same = fewer n xs ys is (λ x. omega (arith, same x)) (λ a below. in_times a ys (omega (arith, same a, times_in a xs (is.each a below))))

-- ---- a number taken out

pub without_other : (s x : ℕ) (xs : List ℕ) → (x ≡ s → ⊥) → times x (without s xs) ≡ times x xs
without_other s x [] other = refl
without_other s x (y ∷ xs) other = go (cases_eq y s) (without_other s x xs other)
  where
    go : (y ≡ s) ⊎ (y ≡ s → ⊥) → times x (without s xs) ≡ times x xs → times x (without s (y ∷ xs)) ≡ one_if (y == x) + times x xs
    go (inl same) rest =
        let out : (y == s) ≡ true = eq-eqb y s same in
        let none : one_if (y == x) ≡ 0 = ap one_if (ne_eqb y x (λ e. other (sym e ∙ same))) in
        rw out (omega (arith, rest, none))
    go (inr apart) rest =
        let kept : (y == s) ≡ false = ne_eqb y s apart in
        rw kept (omega (arith, rest))

pub without_itself : (s : ℕ) (xs : List ℕ) → times s (without s xs) ≡ 0
without_itself s [] = refl
without_itself s (y ∷ xs) = go (cases_eq y s) (without_itself s xs)
  where
    go : (y ≡ s) ⊎ (y ≡ s → ⊥) → times s (without s xs) ≡ 0 → times s (without s (y ∷ xs)) ≡ 0
    go (inl same) rest = let out : (y == s) ≡ true = eq-eqb y s same in rw out rest
    go (inr apart) rest =
        let kept : (y == s) ≡ false = ne_eqb y s apart in
        let none : one_if (y == s) ≡ 0 = ap one_if kept in
        rw kept (omega (arith, rest, none))

-- ---- parts put together, of which one changes

pub set_here : {X : Type 0} (xs : List X) (i : ℕ) (a : X) → i < length xs → Contains (set xs i a) a
set_here xs i a within = (i, omega (arith, length-set xs i a), get_or-set_same xs i a a within)

module _ {X : Type 0} (f : X → List ℕ) where
  pub times_set : (xs : List X) (i : ℕ) (a d : X) (x : ℕ) → i < length xs
      → times x (flat_map f (set xs i a)) + times x (f (get_or xs i d)) ≡ times x (flat_map f xs) + times x (f a)
  times_set [] i a d x within = absurd (omega arith)
  times_set (y ∷ xs) zero a d x within = omega (arith, times_append x (f a) (flat_map f xs), times_append x (f y) (flat_map f xs))
  times_set (y ∷ xs) (suc i) a d x within =
      omega (arith, times_set xs i a d x (omega arith), times_append x (f y) (flat_map f xs), times_append x (f y) (flat_map f (set xs i a)))

  times_bound : (xs : List X) (i : ℕ) (a : X) (x : ℕ) → times x (flat_map f (set xs i a)) ≤ times x (flat_map f xs) + times x (f a)
  times_bound [] i a x = omega arith
  times_bound (y ∷ xs) zero a x = omega (arith, times_append x (f a) (flat_map f xs), times_append x (f y) (flat_map f xs))
  times_bound (y ∷ xs) (suc i) a x = omega (arith, times_bound xs i a x, times_append x (f y) (flat_map f xs), times_append x (f y) (flat_map f (set xs i a)))

  -- what the parts have after one has changed is in that one, or was there before
  pub from_set : (xs : List X) (i : ℕ) (a : X) (c : ℕ) → Contains (flat_map f (set xs i a)) c → Contains (flat_map f xs) c ⊎ Contains (f a) c
  from_set xs i a c inside = go (cases_one (times_bound xs i a c))
    where
      some : 1 ≤ times c (flat_map f (set xs i a))
      some = times_in c (flat_map f (set xs i a)) inside

      cases_one : times c (flat_map f (set xs i a)) ≤ times c (flat_map f xs) + times c (f a) → (1 ≤ times c (flat_map f xs)) ⊎ (1 ≤ times c (f a))
      cases_one low = by (cases_eq (times c (f a)) 0)
        where
          by : (times c (f a) ≡ 0) ⊎ (times c (f a) ≡ 0 → ⊥) → (1 ≤ times c (flat_map f xs)) ⊎ (1 ≤ times c (f a))
          by (inl none) = inl (omega (arith, low, some, none))
          by (inr one) = inr (omega (arith, one))

      go : (1 ≤ times c (flat_map f xs)) ⊎ (1 ≤ times c (f a)) → Contains (flat_map f xs) c ⊎ Contains (f a) c
      go (inl there) = inl (in_times c (flat_map f xs) there)
      go (inr here) = inr (in_times c (f a) here)

  -- the parts still have what they had, where the one that has changed kept its own
  pub into_set : (xs : List X) (i : ℕ) (a d : X) (c : ℕ) → i < length xs → times c (f (get_or xs i d)) ≤ times c (f a) → Contains (flat_map f xs) c
      → Contains (flat_map f (set xs i a)) c
  into_set xs i a d c within more inside =
      in_times c (flat_map f (set xs i a)) (omega (arith, times_set xs i a d c within, more, times_in c (flat_map f xs) inside))
