use Rattle.std.proofs.Common.{◌≡◌, map, take}
use Rattle.tcc_txn.specs.KeyNumbers.{name_at}
use Rattle.tcc_reads.proofs.transaction.names_at.Given as goal

abbrev pub invariant-loop-index : goal.invariant-loop-index
invariant-loop-index l = l.names.items ≡ map (name_at l.keys) (take l.index-index l.indices)
