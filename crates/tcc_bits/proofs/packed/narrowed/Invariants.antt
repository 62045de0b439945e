-- the bits that represent the values so far
use Rattle.std.proofs.Common.{◌≡◌, map, take}
use Rattle.tcc_bits.specs.Packed.{value_in}
use Rattle.tcc_bits.proofs.packed.narrowed.Given as goal

abbrev pub invariant-loop-value : goal.invariant-loop-value
invariant-loop-value l = map value_in l.narrow.items ≡ take l.value-index l.values
