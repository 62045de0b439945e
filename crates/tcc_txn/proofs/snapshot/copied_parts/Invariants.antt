use Rattle.std.proofs.Common.{◌≡◌, take}
use Rattle.std.specs.FinMap.{entries}
use Rattle.tcc_txn.specs.Snapshots.{parts_of}
use Rattle.tcc_txn.proofs.snapshot.copied_parts.Given as goal

-- the copies so far
abbrev pub invariant-loop-i : goal.invariant-loop-i
invariant-loop-i g l = parts_of l.copy.items ≡ take l.i (entries l.snapshot)
