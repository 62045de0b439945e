-- as many as are committed among the first
use Rattle.std.proofs.Common.{◌≡◌, ◌+◌, take}
use Rattle.tcc_txn.specs.Snapshots.{finished_at}
use Rattle.tcc_watch_run.proofs.Committed.{size}
use Rattle.tcc_watch_run.proofs.counting.with_session.Given as goal

abbrev pub invariant-loop-index : goal.invariant-loop-index
invariant-loop-index l = l.all ≡ l.before + size (take l.index (finished_at l.snapshot l.i))
