-- the values so far
use Rattle.std.proofs.Common.{◌≡◌, ◌<◌, ℕ, None, length, slice_index}
use Rattle.std.specs.Prelude.{slice_index_or}
use Rattle.tcc_bits.specs.Packed.{at_most}
use Rattle.tcc_bits.proofs.packed.PackedRow.write_capped.Given as goal

abbrev pub invariant-loop-index : goal.invariant-loop-index
invariant-loop-index l =
    (length l.values ≡ length l.self)
    × ((k : ℕ) → k < l.index → slice_index l.values k ≡ at_most l.cap (slice_index_or l.self k None))
