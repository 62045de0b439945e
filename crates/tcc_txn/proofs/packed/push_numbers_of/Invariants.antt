use Rattle.std.proofs.Common.{◌≡◌, ◌++◌, flat_map, drop}
use Rattle.tcc_txn.specs.private.Packing.{numbers_at, numbers_of}
use Rattle.tcc_txn.proofs.packed.push_numbers_of.Given as goal

abbrev pub invariant-loop-span : goal.invariant-loop-span
invariant-loop-span l =
    l.numbers.items ++ flat_map (numbers_at l.txns.ops.items) (drop l.span-index l.txns.spans.items) ≡ l.initial.numbers.items ++ numbers_of l.txns
