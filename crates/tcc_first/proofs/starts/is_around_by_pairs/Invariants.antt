use Rattle.std.proofs.Common.{ℕ, ◌<◌, ◌≤◌, ◌-◌}
use Rattle.std.specs.Prelude.{slice_index_or}
use Rattle.tcc_first.specs.private.Ways.{HasPairs}
use Rattle.tcc_first.proofs.starts.is_around_by_pairs.Given as goal

abbrev pub invariant-loop-read : goal.invariant-loop-read
invariant-loop-read l =
    (k : ℕ) → k < l.read-index → l.start ≤ (slice_index_or l.read-items k (0, 0)).1 → HasPairs l.graph (l.steps - 1) l.start (slice_index_or l.read-items k (0, 0)).1 → ⊥
