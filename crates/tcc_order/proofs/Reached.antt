-- Whether a transaction reaches another, and whether by a walk that a level allows, decided by a finite search.
use Rattle.std.proofs.Common.{◌≡◌, ℕ, Bool, true, List, [], ◌∷◌, refl, arith}
use Rattle.tcc_reads.specs.History.{History, count}
use Rattle.tcc_graph.specs.Relations.{causal_pair}
use Rattle.tcc_graph.specs.Walks.{step_from, step_to, IsStep, Leads, IsWalk, IsReached}
use Rattle.tcc_graph.specs.Levels.{IsAllowed}
use Rattle.tcc_graph.specs.declared.level.Level.{Level}
use Rattle.tcc_graph.specs.declared.level.Level.TheVariants as level
use Rattle.tcc_graph.specs.declared.step.Step.{Step}
use Rattle.tcc_graph.proofs.Pairs.{pair_from_step, step_below, pair_kinds}
use Rattle.tcc_order.proofs.Within.{within, within_pair, within_join, within_sound}
use Rattle.tcc_graph.proofs.Walking.{pair_walk, reached_append}

-- ---- reached, as a test

-- the transaction b is reached from a
pub reaches : History → ℕ → ℕ → Bool
reaches h a b = within (causal_pair h) (count h) a b

pub walk_of_reaches : (h : History) (a b : ℕ) → reaches h a b ≡ true → IsReached h a b
unfolding reaches
walk_of_reaches h a b p =
    within_sound (causal_pair h) (IsReached h) (λ x y p. let w = pair_walk h x y (pair_kinds h x y p) in (w.0, w.1)) (reached_append h) (count h) a b p

within_of_step : (h : History) (a b : ℕ) (s : Step) → step_from s ≡ a → IsStep h s → step_to s ≡ b → within (causal_pair h) (count h) a b ≡ true
within_of_step h a b s from p to = within_pair (causal_pair h) (count h) a b (rw (← from, ← to) (pair_from_step h s p))

within_of_steps : (h : History) (a b : ℕ) (s : Step) (steps : List Step) → Leads h a b (s ∷ steps) → within (causal_pair h) (count h) a b ≡ true
within_of_steps h a b s [] w = within_of_step h a b s w.0 w.1 w.2
within_of_steps h a b s (t ∷ steps) w =
    within_join (causal_pair h) (count h) a (step_to s) b (step_below h s w.1).1 (within_of_step h a (step_to s) s w.0 w.1 refl)
    (within_of_steps h (step_to s) b t steps w.2)

pub reaches_of_walk : (h : History) (a b : ℕ) (walk : List Step) → IsWalk h a b walk → reaches h a b ≡ true
unfolding reaches
reaches_of_walk h a b [] w = absurd (omega (arith, w.0))
reaches_of_walk h a b (s ∷ steps) w = within_of_steps h a b s steps w.1

-- ---- and by a walk that a level allows

-- some walk that the level allows leads from a to b
unfoldable pub walks : Level → History → ℕ → ℕ → Bool
walks level.Causal h a b = reaches h a b
walks level.Atomic h a b = causal_pair h a b

pub walk_of_walks : (k : Level) (h : History) (a b : ℕ) → walks k h a b ≡ true → (walk : List Step) × IsWalk h a b walk × IsAllowed k walk
unfolding walks
walk_of_walks level.Causal h a b p = let w = walk_of_reaches h a b p in (w.0, w.1, tt)
walk_of_walks level.Atomic h a b p = pair_walk h a b (pair_kinds h a b p)

pub walks_of_walk : (k : Level) (h : History) (a b : ℕ) (walk : List Step) → IsWalk h a b walk → IsAllowed k walk → walks k h a b ≡ true
unfolding walks
walks_of_walk level.Causal h a b walk path allowed = reaches_of_walk h a b walk path
walks_of_walk level.Atomic h a b [] path allowed = absurd (omega (arith, path.0))
walks_of_walk level.Atomic h a b (s ∷ []) path allowed = rw (← path.1.0, ← path.1.2) (pair_from_step h s path.1.1)
walks_of_walk level.Atomic h a b (s ∷ t ∷ steps) path allowed = absurd (omega (arith, allowed))
