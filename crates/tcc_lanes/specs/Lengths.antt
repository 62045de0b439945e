-- How many steps the shortest walks from one transaction have.
use Rattle.std.specs.Prelude.{ℕ, ◌<◌, ◌≤◌, ◌≡◌, List, length, slice_index}
use Rattle.tcc_reads.specs.History.{count}
use Rattle.tcc_graph.specs.Levels.{Judged, IsAllowedWalk}
use Rattle.tcc_graph.specs.declared.step.Step.{Step}
use Rattle.tcc_lanes.specs.declared.lengths.TheConstants.{NO_WALK}

-- for each transaction the least number of steps of a walk from b to it that the level allows, if that is at most the limit; else `NO_WALK`
pub record AreWalkLengths (j : Judged) (b : ℕ) (most : ℕ) (lengths : List ℕ) : Type 0 where
  pub long : length lengths ≡ count j.history
  pub high : (v : ℕ) → v < count j.history → slice_index lengths v ≤ NO_WALK
  pub sound : (v : ℕ) → v < count j.history → slice_index lengths v < NO_WALK
      → (walk : List Step) × IsAllowedWalk j b v walk × (length walk ≤ slice_index lengths v) × (slice_index lengths v ≤ most)
  pub all : (v : ℕ) (walk : List Step) → v < count j.history → IsAllowedWalk j b v walk → length walk ≤ most → slice_index lengths v ≤ length walk
