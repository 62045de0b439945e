-- Transactions that are in a circle by causal pairs alone.
use Rattle.std.specs.Prelude.{ℕ, ◌+◌, ◌-◌, ◌<◌, ◌≢◌, List, length, slice_index_or}
use Rattle.tcc_reads.specs.History.{History}
use Rattle.tcc_graph.specs.Relations.{IsCausalPair}
use Rattle.tcc_graph.specs.Walks.{IsReached}

-- each follows the next one by session order or reads from it, and the last one the first: so each of them reaches itself; none
-- comes twice
pub record IsCircle (h : History) (circle : List ℕ) : Type 0 where
  pub some : 0 < length circle
  pub each : (k : ℕ) → k + 1 < length circle → IsCausalPair h (slice_index_or circle (k + 1) 0) (slice_index_or circle k 0)
  pub closed : IsCausalPair h (slice_index_or circle 0 0) (slice_index_or circle (length circle - 1) 0)
  pub once : (i : ℕ) (k : ℕ) → i < k → k < length circle → slice_index_or circle i 0 ≢ slice_index_or circle k 0

-- causal pairs are in no circle: no transaction reaches itself
abbrev pub IsAcyclic : History → Type 0
IsAcyclic h = (t : ℕ) → IsReached h t t → ⊥
