use Rattle.std.proofs.Common.{◌≡◌, take}
use Rattle.tcc_txn.specs.Snapshots.{finished_at}
use Rattle.tcc_txn.proofs.snapshot.copied.Given as goal

-- the copies so far
abbrev pub invariant-loop-index : goal.invariant-loop-index
invariant-loop-index g l = l.copy.items ≡ take l.index (finished_at l.snapshot l.i)
