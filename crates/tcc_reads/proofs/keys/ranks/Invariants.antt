use Rattle.std.proofs.Common.{take}
use Rattle.tcc_txn.specs.KeyNumbers.{AreNumbers}
use Rattle.tcc_reads.proofs.keys.ranks.Given as goal

abbrev pub invariant-loop-name : goal.invariant-loop-name
invariant-loop-name l = AreNumbers l.keys l.ranks.items (take l.name-index l.names)
