-- The least size that something has, by a test of each size; and walks by their lengths.
use Rattle.std.proofs.Common.{ℕ, zero, suc, ◌≡◌, ◌<◌, ◌≤◌, ◌+◌, ◌-◌, Bool, true, false, cond, ◌&&◌, ◌⊎◌, inl, inr, List, [], ◌∷◌, length, refl, sym, ◌∙◌, subst, arith}
use Rattle.std.specs.List.{Contains, list_any, range_with_len}
use Rattle.std.proofs.lemmas.Bool.{and_parts, and_from, or_cases, eqb-true, eq-eqb, ltb-true, lt-ltb, true≢false}
use Rattle.std.proofs.lemmas.List.Folds.{list_any_at}
use Rattle.std.proofs.lemmas.List.FromFn.{length-range_with_len, get_or-range_with_len}
use Rattle.tcc_reads.specs.History.{History, count}
use Rattle.tcc_graph.specs.Keys.{numbers}
use Rattle.tcc_graph.specs.Levels.{Judged, IsAllowedWalk, IsAllowed}
use Rattle.tcc_graph.specs.Relations.{causal_pair}
use Rattle.tcc_graph.specs.Walks.{step_to, Leads}
use Rattle.tcc_graph.specs.declared.level.Level.{Level}
use Rattle.tcc_graph.specs.declared.level.Level.TheVariants.{Causal, Atomic}
use Rattle.tcc_graph.specs.declared.step.Step.{Step}
use Rattle.tcc_graph.proofs.Pairs.{step_from_pair, pair_from_step, step_below}
use Rattle.tcc_explain.specs.Tabled.{allows, has_walk, least_below, steps_lead}

-- ---- tests of lists

-- what passes a test of a list is in it
pub any_found : {X : Type 0} (test : X → Bool) (xs : List X) → list_any test xs ≡ true → (x : X) × Contains xs x × (test x ≡ true)
any_found test [] e = absurd cc
any_found {X} test (x ∷ xs) e = go (or_cases (test x) (list_any test xs) e) (any_found test xs)
  where
    go : (test x ≡ true) ⊎ (list_any test xs ≡ true) → (list_any test xs ≡ true → (y : X) × Contains xs y × (test y ≡ true))
        → (y : X) × Contains (x ∷ xs) y × (test y ≡ true)
    go (inl here) on = (x, (0, omega arith, refl), here)
    go (inr later) on = let (y, (i, low, at), passes) = on later in (y, (suc i, omega arith, at), passes)

pub any_of : {X : Type 0} (test : X → Bool) (xs : List X) (x : X) → Contains xs x → test x ≡ true → list_any test xs ≡ true
any_of test xs x (i, low, at) e = list_any_at test xs i x low (subst (λ y. test y ≡ true) (sym at) e)

pub in_range : (a n i : ℕ) → a ≤ i → i < a + n → Contains (range_with_len a n) i
in_range a n i from to =
    let inside : i - a < n = omega arith in
    (i - a, omega (arith, length-range_with_len a n), omega (arith, get_or-range_with_len a n (i - a) i inside))

pub below_range : (n i : ℕ) → Contains (range_with_len 0 n) i → i < n
below_range n i (k, low, at) =
    let inside : k < n = omega (arith, low, length-range_with_len 0 n) in
    omega (arith, inside, sym at ∙ get_or-range_with_len 0 n k i inside)

-- ---- least sizes

-- the size n is the least that something has, where that is below the cap; else the cap
abbrev pub IsCapped : {X : Type 0} → (X → Type 0) → (X → ℕ) → ℕ → ℕ → Type 0
IsCapped {X} Is size cap n =
    ((n < cap) × ((x : X) × Is x × (size x ≡ n)) × ((x : X) → Is x → n ≤ size x)) ⊎ ((n ≡ cap) × ((x : X) → Is x → cap ≤ size x))

-- the least number below the limit that passes, if one does
abbrev IsLeastBelow : (ℕ → Bool) → ℕ → ℕ → Type 0
IsLeastBelow test cap n =
    ((n < cap) × (test n ≡ true) × ((m : ℕ) → test m ≡ true → n ≤ m)) ⊎ ((n ≡ cap) × ((m : ℕ) → test m ≡ true → cap ≤ m))

least_is : (test : ℕ → Bool) (cap : ℕ) → IsLeastBelow test cap (least_below test cap)
least_is test zero = inr (refl, λ m passes. omega arith)
least_is test (suc cap) = go (test 0) refl (least_is (λ n. test (suc n)) cap)
  where
    go : (b : Bool) → test 0 ≡ b → IsLeastBelow (λ n. test (suc n)) cap (least_below (λ n. test (suc n)) cap)
        → IsLeastBelow test (suc cap) (cond b 0 (suc (least_below (λ n. test (suc n)) cap)))
    go true here later = inl (omega arith, here, λ m passes. omega arith)
    go false not_here (inl (low, at, least)) = inl (omega arith, at, up)
      where
        up : (m : ℕ) → test m ≡ true → suc (least_below (λ n. test (suc n)) cap) ≤ m
        up zero passes = absurd (true≢false (sym passes ∙ not_here))
        up (suc m) passes = let more = least m passes in omega arith
    go false not_here (inr (all, none)) = inr (omega (arith, all), up)
      where
        up : (m : ℕ) → test m ≡ true → suc cap ≤ m
        up zero passes = absurd (true≢false (sym passes ∙ not_here))
        up (suc m) passes = let more = none m passes in omega arith

-- a test that holds of the sizes of something finds the least
pub capped_is : {X : Type 0} (Is : X → Type 0) (size : X → ℕ) (test : ℕ → Bool) → ((n : ℕ) → test n ≡ true → (x : X) × Is x × (size x ≡ n))
    → ((x : X) → Is x → test (size x) ≡ true) → (cap : ℕ) → IsCapped Is size cap (least_below test cap)
capped_is {X} Is size test sound whole cap = go (least_below test cap) (least_is test cap)
  where
    go : (n : ℕ) → IsLeastBelow test cap n → IsCapped Is size cap n
    go n (inl (low, at, least)) = inl (low, sound n at, λ x is. least (size x) (whole x is))
    go n (inr (all, none)) = inr (all, λ x is. none (size x) (whole x is))

-- ---- walks

pub number_in : (h : History) (n : ℕ) → n < count h → Contains (numbers h) n
number_in h n low = in_range 0 (count h) n (omega arith) (omega (arith, low))

pub number_below : (h : History) (n : ℕ) → Contains (numbers h) n → n < count h
number_below h n within = below_range (count h) n within

pub led_by : (h : History) (n a c : ℕ) → steps_lead h n a c ≡ true → (walk : List Step) × Leads h a c walk × (length walk ≡ n)
led_by h zero a c e = ([], eqb-true a c e, refl)
led_by h (suc n) a c e =
    let (b, within, both) = any_found (λ b. causal_pair h a b && steps_lead h n b c) (numbers h) e in
    let (pair, rest) = and_parts (causal_pair h a b) (steps_lead h n b c) both in
    let (walk, leads, long) = led_by h n b c rest in
    let (s, from, to, is) = step_from_pair h a b pair in
    (s ∷ walk, (from, is, subst (λ (z : ℕ). Leads h z c walk) (sym to) leads), omega (arith, long))

pub steps_of : (h : History) (a c : ℕ) (walk : List Step) → Leads h a c walk → steps_lead h (length walk) a c ≡ true
steps_of h a c [] leads = eq-eqb a c leads
steps_of h a c (s ∷ walk) (from, is, leads) =
    any_of (λ b. causal_pair h a b && steps_lead h (length walk) b c) (numbers h) (step_to s) (number_in h (step_to s) (step_below h s is).1)
    (and_from _ _ (subst (λ (z : ℕ). causal_pair h z (step_to s) ≡ true) from (pair_from_step h s is)) (steps_of h (step_to s) c walk leads))

allowed_by : (level : Level) (walk : List Step) → allows level (length walk) ≡ true → (0 < length walk) × IsAllowed level walk
allowed_by Causal walk e = (ltb-true 0 (length walk) e, tt)
allowed_by Atomic walk e = let one = eqb-true (length walk) 1 e in (omega (arith, one), one)

allows_of : (level : Level) (walk : List Step) → 0 < length walk → IsAllowed level walk → allows level (length walk) ≡ true
allows_of Causal walk some is = lt-ltb 0 (length walk) some
allows_of Atomic walk some is = eq-eqb (length walk) 1 is

pub walk_by : (j : Judged) (a c n : ℕ) → has_walk j n a c ≡ true → (walk : List Step) × IsAllowedWalk j a c walk × (length walk ≡ n)
walk_by j a c n e =
    let (may, lead) = and_parts (allows j.level n) (steps_lead j.history n a c) e in
    let (walk, leads, long) = led_by j.history n a c lead in
    let (some, is) = allowed_by j.level walk (subst (λ (z : ℕ). allows j.level z ≡ true) (sym long) may) in
    (walk, ((some, leads), is), long)

pub walk_of : (j : Judged) (a c : ℕ) (walk : List Step) → IsAllowedWalk j a c walk → has_walk j (length walk) a c ≡ true
walk_of j a c walk ((some, leads), is) = and_from _ _ (allows_of j.level walk some is) (steps_of j.history a c walk leads)

pub shortest_is : (j : Judged) (cap a c : ℕ) → IsCapped (IsAllowedWalk j a c) length cap (least_below (λ n. has_walk j n a c) cap)
shortest_is j cap a c = capped_is (IsAllowedWalk j a c) length (λ n. has_walk j n a c) (walk_by j a c) (walk_of j a c) cap
