-- Lengths of walks, lowered along the pairs.
use Rattle.std.specs.Prelude.{ℕ, ◌<◌, ◌≤◌, ◌≡◌, ◌+◌, ◌⊎◌, ◌==◌, if◌then◌else◌, List, length, min, slice_index}
use Rattle.tcc_reads.specs.History.{count}
use Rattle.tcc_graph.specs.Levels.{Judged, IsAllowedWalk}
use Rattle.tcc_graph.specs.Relations.{IsCausalPair}
use Rattle.tcc_graph.specs.declared.level.Level.{Level}
use Rattle.tcc_graph.specs.declared.level.Level.TheVariants as level
use Rattle.tcc_graph.specs.declared.step.Step.{Step}
use Rattle.tcc_lanes.specs.declared.lengths.TheConstants.{NO_WALK}

-- how many steps lead to u when a walk goes on from there: 0 where walks begin; where all walks have one step, no walk goes on from any
-- other transaction
abbrev pub steps_at : Level → ℕ → List ℕ → ℕ → ℕ
steps_at level.Causal b lengths u = if u == b then 0 else slice_index lengths u
steps_at level.Atomic b lengths u = if u == b then 0 else NO_WALK

-- the least of some values, where there are any
pub record IsLeastOver (Is : ℕ → Type 0) (steps : ℕ → ℕ) (least : ℕ) : Type 0 where
  pub below : (u : ℕ) → Is u → least ≤ steps u
  pub some : (least ≡ NO_WALK) ⊎ ((u : ℕ) × Is u × (steps u ≡ least))

-- the fewest steps to a transaction before v in session order, from those of the previous index
abbrev pub least_on : Level → ℕ → List ℕ → List ℕ → ℕ → ℕ → ℕ
least_on level b parents lengths run v =
    if v == 0 then NO_WALK
    else if slice_index parents v == 0 then steps_at level b lengths (slice_index parents v)
    else min run (steps_at level b lengths (slice_index parents v))

-- each length is that of a walk or greater, and none is above a limit
abbrev pub AreAttained : Judged → ℕ → ℕ → List ℕ → Type 0
AreAttained j b most lengths =
    (v : ℕ) → v < count j.history → slice_index lengths v < NO_WALK
    → (walk : List Step) × IsAllowedWalk j b v walk × (length walk ≤ slice_index lengths v) × (slice_index lengths v ≤ most)

-- no length is greater than before, and none exceeds by more than 1 the steps to where a pair that ends there begins
pub record AreLowered (j : Judged) (b : ℕ) (most : ℕ) (old : List ℕ) (new : List ℕ) : Type 0 where
  pub same : length new ≡ length old
  pub kept : (v : ℕ) → slice_index new v ≤ slice_index old v
  pub over : (u v : ℕ) → IsCausalPair j.history u v → steps_at j.level b old u < most → slice_index new v ≤ steps_at j.level b old u + 1
  pub attained : AreAttained j b most old → AreAttained j b most new
