use Rattle.std.proofs.Common.{[], flat_map, take}
use Rattle.tcc_txn.specs.KeyNumbers.{AreNumbers, keys_of}
use Rattle.tcc_txn.proofs.key_numbers.number_parts.Given as goal

abbrev pub invariant-loop-part : goal.invariant-loop-part
invariant-loop-part l =
    AreNumbers l.initial.keys [] [] → AreNumbers l.keys l.numbers.items (flat_map (λ part. keys_of part.1.items) (take l.part-index l.parts))
