use Rattle.std.proofs.Common.{ℕ, ◌<◌, ◌≤◌}
use Rattle.std.specs.Prelude.{slice_index_or}
use Rattle.tcc_first.specs.private.Ways.{IsSessionTwoStep}
use Rattle.tcc_first.proofs.stale_sources.has_stale_session.Given as goal

abbrev pub invariant-loop-read : goal.invariant-loop-read
invariant-loop-read l =
    (k : ℕ) → k < l.read-index → l.start ≤ (slice_index_or l.read-items k (0, 0)).1 → IsSessionTwoStep l.graph l.start (slice_index_or l.read-items k (0, 0)).1 → ⊥
