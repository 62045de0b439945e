-- Walks of at most n steps, by their last step.
use Rattle.std.proofs.Common.{◌≡◌, ◌<◌, ◌≤◌, ◌+◌, ℕ, zero, suc, true, ◌⊎◌, inl, inr, List, [], ◌∷◌, ◌++◌, length, refl, arith, length-append}
use Rattle.std.proofs.lemmas.Bool.{cases_lt}
use Rattle.tcc_reads.specs.History.{History, count}
use Rattle.tcc_graph.specs.Relations.{causal_pair}
use Rattle.tcc_graph.specs.Levels.{causally}
use Rattle.tcc_graph.specs.Walks.{step_to, Leads, IsWalk}
use Rattle.tcc_graph.specs.declared.step.Step.{Step}
use Rattle.tcc_near.specs.WalkLengths.{IsShortest}
use Rattle.tcc_near.specs.private.Breadth.{IsWithin}
use Rattle.tcc_graph.proofs.Pairs.{pair_kinds, step_from_pair, pair_from_step, pair_below}
use Rattle.tcc_graph.proofs.Walking.{leads_append}

-- all steps but the last lead to some u, from which the last step goes
abbrev Split : History → ℕ → ℕ → ℕ → Type 0
Split h a b n = (u : ℕ) × (front : List Step) × Leads h a u front × (causal_pair h u b ≡ true) × (length front ≡ n)

split_last : (h : History) (a b : ℕ) (s : Step) (steps : List Step) → Leads h a b (s ∷ steps) → Split h a b (length steps)
split_last h a b s [] w = (a, [], refl, rw (← w.0, ← w.2) (pair_from_step h s w.1), refl)
split_last h a b s (t ∷ steps) w =
    let rest = split_last h (step_to s) b t steps w.2 in
    (rest.0, s ∷ rest.1, (w.0, w.1, rest.2), rest.3, omega (arith, rest.4))

-- one more step at the end
join_last : (h : History) (a u b : ℕ) (front : List Step) → Leads h a u front → causal_pair h u b ≡ true
    → (walk : List Step) × Leads h a b walk × (length walk ≡ length front + 1)
join_last h a u b front w p =
    let s = step_from_pair h u b p in
    (front ++ s.0 ∷ [], leads_append h a u b front (s.0 ∷ []) w (s.1, s.3, s.2), omega (arith, length-append front (s.0 ∷ [])))

pub within_more : (h : History) (a n m b : ℕ) → n ≤ m → IsWithin h a n b → IsWithin h a m b
within_more h a n m b l w = (w.0, w.1, omega (arith, w.2))

-- a walk of one step is a causal pair
pub within_one : (h : History) (a b : ℕ) → IsWithin h a 1 b → causal_pair h a b ≡ true
within_one h a b ([], w, l) = absurd (omega (arith, w.0))
within_one h a b (s ∷ t ∷ steps, w, l) = absurd (omega arith)
within_one h a b (s ∷ [], w, l) = rw (← w.1.0, ← w.1.2) (pair_from_step h s w.1.1)

pub within_one_from : (h : History) (a b : ℕ) → causal_pair h a b ≡ true → IsWithin h a 1 b
within_one_from h a b p =
    let w = join_last h a a b [] refl p in
    let long : length w.0 ≡ 0 + 1 = w.2 in
    (w.0, (omega arith, w.1), omega arith)

-- a causal pair after a walk is one more step
pub within_pair : (h : History) (a n u b : ℕ) → IsWithin h a n u → causal_pair h u b ≡ true → IsWithin h a (n + 1) b
within_pair h a n u b v p =
    let w = join_last h a u b v.0 v.1.1 p in
    (w.0, (omega (arith, w.2), w.1), omega (arith, w.2, v.2))

-- a walk of at most n + 1 steps has at most n, or a last step after one of n
abbrev pub IsStepAfter : History → ℕ → ℕ → ℕ → Type 0
IsStepAfter h a n b = (u : ℕ) × (walk : List Step) × IsWalk h a u walk × (length walk ≡ n) × (causal_pair h u b ≡ true)

pub last_step : (h : History) (a n b : ℕ) → 0 < n → IsWithin h a (n + 1) b → IsWithin h a n b ⊎ IsStepAfter h a n b
last_step h a n b some ([], w, l) = absurd (omega (arith, w.0))
last_step h a n b some (s ∷ steps, w, l) = go (split_last h a b s steps w.1) (cases_lt (length steps) n)
  where
    go : Split h a b (length steps) → (length steps < n) ⊎ (n ≤ length steps) → IsWithin h a n b ⊎ IsStepAfter h a n b
    go split (inl few) = inl (s ∷ steps, w, omega arith)
    go split (inr many) =
        let long : length split.1 ≡ n = omega (arith, split.4) in
        inr (split.0, split.1, (omega arith, split.2), long, split.3)

-- if nothing is n + 1 steps away, nothing is further away
pub within_closed : (h : History) (a n : ℕ) → ((b : ℕ) → IsWithin h a (n + 1) b → IsWithin h a n b) → (m b : ℕ) → IsWithin h a m b → IsWithin h a n b
within_closed h a n closed zero b ([], w, l) = absurd (omega (arith, w.0))
within_closed h a n closed zero b (s ∷ steps, w, l) = absurd (omega arith)
within_closed h a n closed (suc zero) b w = closed b (within_more h a 1 (n + 1) b (omega arith) w)
within_closed h a n closed (suc (suc m)) b w =
    go (λ x. within_closed h a n closed (suc m) x) (last_step h a (suc m) b (omega arith) (within_more h a (suc (suc m)) (suc m + 1) b (omega arith) w))
  where
    go : ((x : ℕ) → IsWithin h a (suc m) x → IsWithin h a n x) → IsWithin h a (suc m) b ⊎ IsStepAfter h a (suc m) b → IsWithin h a n b
    go before (inl few) = before b few
    go before (inr last) = closed b (within_pair h a n last.0 b (before last.0 (last.1, last.2, omega (arith, last.3))) last.4)

-- walks lead to transactions
pub within_below : (h : History) (a n b : ℕ) → IsWithin h a n b → b < count h
within_below h a n b ([], w, l) = absurd (omega (arith, w.0))
within_below h a n b (s ∷ steps, w, l) =
    let split = split_last h a b s steps w.1 in
    (pair_below h split.0 b (pair_kinds h split.0 b split.3)).1

-- what is within n steps and not within fewer is n steps away
pub shortest_at : (h : History) (a n b : ℕ) → (IsWithin h a n b → ⊥) → IsWithin h a (n + 1) b → IsShortest (causally h) a b (n + 1)
shortest_at h a n b further w = record {
  attained = (w.0, (w.1, tt), go (cases_lt (length w.0) (n + 1)));
  least = λ walk is. other walk is.0 (cases_lt (length walk) (n + 1));
}
  where
    go : (length w.0 < n + 1) ⊎ (n + 1 ≤ length w.0) → length w.0 ≡ n + 1
    go (inl few) = absurd (further (w.0, w.1, omega arith))
    go (inr many) = omega (arith, w.2)

    other : (walk : List Step) → IsWalk h a b walk → (length walk < n + 1) ⊎ (n + 1 ≤ length walk) → n + 1 ≤ length walk
    other walk is (inl few) = absurd (further (walk, is, omega arith))
    other walk is (inr many) = many
