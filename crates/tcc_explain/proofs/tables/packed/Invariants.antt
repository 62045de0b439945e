-- the rows so far
use Rattle.std.proofs.Common.{◌≡◌, map}
use Rattle.tcc_bits.specs.Packed.{value_in}
use Rattle.tcc_explain.proofs.tables.packed.Given as goal

abbrev pub invariant-loop-row : goal.invariant-loop-row
invariant-loop-row l = l.packed.items ≡ map (map value_in) l.yielded
