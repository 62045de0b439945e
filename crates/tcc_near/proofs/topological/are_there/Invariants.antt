use Rattle.std.proofs.Common.{◌<◌, ℕ, slice_index}
use Rattle.tcc_near.specs.private.Backwards.{IsThere}
use Rattle.tcc_near.proofs.topological.are_there.Given as goal

abbrev pub invariant-loop-number : goal.invariant-loop-number
invariant-loop-number l = (k : ℕ) → k < l.number-index → IsThere l.rows l.count (slice_index l.numbers k)
