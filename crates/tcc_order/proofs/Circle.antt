-- If each number that is left has one before it that is left too, going back meets some number twice: there is a cycle.
use Rattle.std.proofs.Common.{◌≡◌, ◌<◌, ◌≤◌, ℕ, zero, suc, ◌+◌, Bool, true, false, ◌&&◌, ◌⊎◌, inl, inr, List, [], ◌∷◌, length, not, eqb, arith}
use Rattle.std.specs.List.{IsDistinct, AllByRecursion}
use Rattle.std.proofs.lemmas.Bool.{or_cases, and_parts, cases_Bool, cases_eq, false≢true, eqb-true, not-true, not-false, or_parts}
use Rattle.std.proofs.lemmas.Map.Steps.{length-le_from_distinct_below, le-length_from_below}
use Rattle.tcc_order.specs.private.Numbering.{Joins, HasCircle}
use Rattle.tcc_order.proofs.Greedy.{has, IsFree, IsBelow}

-- the least number below a count that passes a test
pub record IsLeastPassing (test : ℕ → Bool) (n : ℕ) (x : ℕ) : Type 0 where
  pub below : x < n
  pub passes : test x ≡ true
  pub least : (y : ℕ) → y < x → test y ≡ false

abbrev pub Search : (ℕ → Bool) → ℕ → Type 0
Search test n = ((x : ℕ) × IsLeastPassing test n x) ⊎ ((y : ℕ) → y < n → test y ≡ false)

pub search_below : (test : ℕ → Bool) (n : ℕ) → Search test n
search_below test zero = inr (λ y l. absurd (omega arith))
search_below test (suc n) = go (search_below test n) (cases_Bool (test n))
  where
    last : ((y : ℕ) → y < n → test y ≡ false) → test n ≡ false → (y : ℕ) → y < suc n → (y ≡ n) ⊎ (y ≡ n → ⊥) → test y ≡ false
    last none f y l (inl same) = rw same f
    last none f y l (inr other) = none y (omega arith)

    go : Search test n → (test n ≡ true) ⊎ (test n ≡ false) → Search test (suc n)
    go (inl found) t = inl (found.0, record { below = omega (arith, found.1.below); passes = found.1.passes; least = found.1.least })
    go (inr none) (inl t) = inl (n, record { below = omega arith; passes = t; least = none })
    go (inr none) (inr f) = inr (λ y l. last none f y l (cases_eq y n))

-- each number leads to the next
abbrev Chain : (ℕ → ℕ → Bool) → ℕ → List ℕ → Type 0
Chain precedes x [] = Unit {0}
Chain precedes x (y ∷ ys) = (precedes x y ≡ true) × Chain precedes y ys

to_member : (precedes : ℕ → ℕ → Bool) (x : ℕ) (ys : List ℕ) (z : ℕ) → Chain precedes x ys → has ys z ≡ true → (between : List ℕ) × Joins precedes x z between
to_member precedes x [] z chain h = absurd (false≢true h)
to_member precedes x (y ∷ ys) z chain h = go (or_cases (eqb z y) (has ys z) h) (λ t. to_member precedes y ys z chain.1 t)
  where
    go : (eqb z y ≡ true) ⊎ (has ys z ≡ true) → (has ys z ≡ true → (between : List ℕ) × Joins precedes y z between)
        → (between : List ℕ) × Joins precedes x z between
    go (inl same) rest = ([], rw (eqb-true z y same) chain.0)
    go (inr later) rest = let w = rest later in (y ∷ w.0, (chain.0, w.1))

fresh_all : (x : ℕ) (xs : List ℕ) → has xs x ≡ false → AllByRecursion (λ y. eqb x y ≡ false) xs
fresh_all x [] h = tt
fresh_all x (y ∷ xs) h = let w = or_parts (eqb x y) (has xs x) h in (w.0, fresh_all x xs w.1)

distinct_cons : (x : ℕ) (xs : List ℕ) → has xs x ≡ false → IsDistinct eqb xs → IsDistinct eqb (x ∷ xs)
unfolding IsDistinct
distinct_cons x xs h d = (fresh_all x xs h, d)

distinct_one : (x : ℕ) → IsDistinct eqb (x ∷ [])
unfolding IsDistinct
distinct_one x = (tt, tt)

-- each number that is left has one before it that is left
abbrev pub HasBefore : (ℕ → ℕ → Bool) → (ℕ → Type 0) → Type 0
HasBefore precedes Left = (x : ℕ) → Left x → (a : ℕ) × Left a × (precedes a x ≡ true)

-- what was visited going back
record IsTrail (precedes : ℕ → ℕ → Bool) (n : ℕ) (Left : ℕ → Type 0) (x : ℕ) (xs : List ℕ) : Type 0 where
  left : Left x
  below : (q : ℕ) → has (x ∷ xs) q ≡ true → q < n
  chain : Chain precedes x xs
  distinct : IsDistinct eqb (x ∷ xs)

module _ (precedes : ℕ → ℕ → Bool) (n : ℕ) (Left : ℕ → Type 0) (inside : (x : ℕ) → Left x → x < n) (prior : HasBefore precedes Left) where
  back : (fuel : ℕ) (x : ℕ) (xs : List ℕ) → n ≤ fuel + length xs → IsTrail precedes n Left x xs → HasCircle precedes
  back zero x xs enough trail = absurd (omega (arith, length-le_from_distinct_below (x ∷ xs) n trail.distinct trail.below))
  back (suc fuel) x xs enough trail = step (prior x trail.left) (λ a t. back fuel a (x ∷ xs) (omega arith) t)
    where
      below : (a : ℕ) → a < n → (q : ℕ) → (eqb q a ≡ true) ⊎ (has (x ∷ xs) q ≡ true) → q < n
      below a l q (inl same) = rw (eqb-true q a same) l
      below a l q (inr old) = trail.below q old

      go : (a : ℕ) → Left a → precedes a x ≡ true → (IsTrail precedes n Left a (x ∷ xs) → HasCircle precedes)
          → (has (x ∷ xs) a ≡ true) ⊎ (has (x ∷ xs) a ≡ false) → HasCircle precedes
      go a left p rest (inl met) = let w = to_member precedes a (x ∷ xs) a (p, trail.chain) met in (a, w.0, w.1)
      go a left p rest (inr new) = rest (record {
        left = left;
        below = λ q h. below a (inside a left) q (or_cases (eqb q a) (has (x ∷ xs) q) h);
        chain = (p, trail.chain);
        distinct = distinct_cons a (x ∷ xs) new trail.distinct;
      })

      step : (a : ℕ) × Left a × (precedes a x ≡ true) → ((a : ℕ) → IsTrail precedes n Left a (x ∷ xs) → HasCircle precedes) → HasCircle precedes
      step (a, left, p) rest = go a left p (rest a) (cases_Bool (has (x ∷ xs) a))

  -- if some number is left there is a cycle
  pub left_circle : (x : ℕ) → Left x → HasCircle precedes
  left_circle x left =
      back n x [] (omega arith) (record {
        left = left;
        below = λ q h. here q (or_cases (eqb q x) false h);
        chain = tt;
        distinct = distinct_one x;
      })
    where
      here : (q : ℕ) → (eqb q x ≡ true) ⊎ (false ≡ true) → q < n
      here q (inl same) = rw (eqb-true q x same) (inside x left)
      here q (inr no_more) = absurd (false≢true no_more)

-- a number before x that is left
abbrev pub lacks : (ℕ → ℕ → Bool) → List ℕ → ℕ → ℕ → Bool
lacks precedes done x a = precedes a x && not (has done a)

-- x was not picked
abbrev pub IsNotDone : ℕ → List ℕ → ℕ → Type 0
IsNotDone n done x = (x < n) × (has done x ≡ false)

-- if none can be picked, each that is left has one before it that is left
pub prior_of : (precedes : ℕ → ℕ → Bool) (n : ℕ) (done : List ℕ) → IsBelow precedes n → ((x : ℕ) → IsFree precedes n done x → ⊥)
    → HasBefore precedes (IsNotDone n done)
prior_of precedes n done bounds stuck x (l, left) = go (search_below (lacks precedes done x) n)
  where
    seen : ((y : ℕ) → y < n → lacks precedes done x y ≡ false) → (a : ℕ) → precedes a x ≡ true → has done a ≡ true
    seen none a p = not-false (has done a) (rw p at (none a (bounds a x p).0))

    go : Search (lacks precedes done x) n → (a : ℕ) × IsNotDone n done a × (precedes a x ≡ true)
    go (inl found) =
        let w = and_parts (precedes found.0 x) (not (has done found.0)) found.1.passes in (found.0, (found.1.below, not-true (has done found.0) w.1), w.0)
    go (inr none) = absurd (stuck x (record { below = l; new = left; ready = seen none }))

-- if not all were picked, some number is left
pub some_left : (n : ℕ) (done : List ℕ) → length done < n → (x : ℕ) × (x < n) × (has done x ≡ false)
some_left n done short = go (search_below (λ x. not (has done x)) n)
  where
    go : Search (λ x. not (has done x)) n → (x : ℕ) × (x < n) × (has done x ≡ false)
    go (inl found) = (found.0, found.1.below, not-true (has done found.0) found.1.passes)
    go (inr none) = absurd (omega (arith, le-length_from_below done n (λ q l. not-false (has done q) (none q l))))

pub short_circle : (precedes : ℕ → ℕ → Bool) (n : ℕ) (done : List ℕ) → IsBelow precedes n → ((x : ℕ) → IsFree precedes n done x → ⊥) → length done < n
    → HasCircle precedes
short_circle precedes n done bounds stuck short =
    let w = some_left n done short in
    left_circle precedes n (IsNotDone n done) (λ x left. left.0) (prior_of precedes n done bounds stuck) w.0 (w.1, w.2)
