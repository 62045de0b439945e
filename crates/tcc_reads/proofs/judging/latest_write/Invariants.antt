use Rattle.std.proofs.Common.{◌≡◌, ◌-◌, length, take}
use Rattle.tcc_txn.specs.KeyNumbers.{name_at}
use Rattle.tcc_reads.specs.Sources.{visible_write}
use Rattle.tcc_reads.proofs.judging.latest_write.Given as goal

abbrev pub invariant-loop-left : goal.invariant-loop-left
invariant-loop-left l = visible_write (name_at l.keys l.index) l.ops ≡ visible_write (name_at l.keys l.index) (take (length l.ops - l.left) l.ops)
