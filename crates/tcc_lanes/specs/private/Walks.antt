-- Where walks lead from where lanes begin.
use Rattle.std.specs.Prelude.{ℕ, ◌<◌, ◌≤◌, ◌↔◌, List, length}
use Rattle.tcc_reads.specs.History.{count}
use Rattle.tcc_graph.specs.Levels.{Judged, IsAllowedWalk}
use Rattle.tcc_graph.specs.declared.step.Step.{Step}
use Rattle.tcc_lanes.specs.declared.words.TheConstants.{LANES}
use Rattle.tcc_lanes.specs.private.Marks.{IsAt}

-- a walk of at most `n` steps, which the level allows, leads to v from where the lane begins
abbrev pub IsWalkedTo : Judged → List ℕ → ℕ → ℕ → ℕ → Type 0
IsWalkedTo j begun most v i = (start : ℕ) × (walk : List Step) × IsAt begun start i × IsAllowedWalk j start v walk × (length walk ≤ most)

-- lanes are marked where such walks lead, and nowhere else
abbrev pub AreWalked : Judged → List ℕ → ℕ → List ℕ → Type 0
AreWalked j begun most marks = (v i : ℕ) → v < count j.history → i < LANES → IsAt marks v i ↔ IsWalkedTo j begun most v i
