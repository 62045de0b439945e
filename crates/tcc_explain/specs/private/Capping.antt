-- Rows of capped distances.
use Rattle.std.specs.Prelude.{ℕ, ◌<◌, ◌≤◌, ◌≡◌, ◌-◌, List, length, Option, None, Some, slice_index_or}
use Rattle.tcc_reads.specs.History.{count}
use Rattle.tcc_graph.specs.Levels.{Judged}
use Rattle.tcc_graph.specs.Tables.{row_of}
use Rattle.tcc_core.specs.Shares.{IsCappedDistance}

-- a row from each transaction, which has the distances of all from there upward, capped
pub record AreFarRows (j : Judged) (cap : ℕ) (rows : List (List (Option ℕ))) : Type 0 where
  pub long : length rows ≡ count j.history
  pub wide : (s : ℕ) → s < count j.history → length (row_of rows s) ≡ count j.history - s
  pub exact : (s : ℕ) (v : ℕ) → s ≤ v → v < count j.history → IsCappedDistance j s v (Some cap) (slice_index_or (row_of rows s) (v - s) None)
