use Rattle.std.proofs.Common.{ℕ, ◌<◌, ◌≤◌}
use Rattle.std.specs.Prelude.{slice_index}
use Rattle.tcc_first.specs.private.Ways.{IsSessionTwoStep}
use Rattle.tcc_first.proofs.returns.has_reader_return.Given as goal

abbrev pub invariant-loop-reader : goal.invariant-loop-reader
invariant-loop-reader l =
    (k : ℕ) → k < l.reader-index → l.from ≤ slice_index l.reader-items k → IsSessionTwoStep l.graph (slice_index l.reader-items k) l.from → ⊥
