-- the values so far
use Rattle.std.proofs.Common.{◌≡◌, take}
use Rattle.tcc_bits.proofs.packed.PackedRow.unpacked.Given as goal

abbrev pub invariant-loop-index : goal.invariant-loop-index
invariant-loop-index l = l.values.items ≡ take l.index l.self
