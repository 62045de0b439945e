use Rattle.std.proofs.Common.{◌<◌, ℕ, slice_index}
use Rattle.tcc_clocks.specs.Clocks.{IsLike}
use Rattle.tcc_clocks.proofs.rows.like.Given as goal

abbrev pub invariant-loop-number : goal.invariant-loop-number
invariant-loop-number l = (k : ℕ) → k < l.number-index → IsLike l.table l.owners l.from l.other (slice_index l.numbers k)
