use Rattle.std.proofs.Common.{◌≡◌, ◌++◌, flat_map, drop}
use Rattle.tcc_txn.specs.private.Packing.{numbers_of}
use Rattle.tcc_txn.proofs.packed.numbers_in.Given as goal

abbrev pub invariant-loop-part : goal.invariant-loop-part
invariant-loop-part l =
    l.numbers.items ++ flat_map (λ part. numbers_of part.1) (drop l.part-index l.sessions) ≡ flat_map (λ part. numbers_of part.1) l.sessions
