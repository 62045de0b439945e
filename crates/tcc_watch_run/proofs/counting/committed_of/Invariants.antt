-- as many as are committed in the first sessions
use Rattle.std.proofs.Common.{◌≡◌, sum_by, take}
use Rattle.std.specs.FinMap.{entries}
use Rattle.tcc_watch_run.proofs.Committed.{part_size}
use Rattle.tcc_watch_run.proofs.counting.committed_of.Given as goal

abbrev pub invariant-loop-i : goal.invariant-loop-i
invariant-loop-i l = l.all ≡ sum_by part_size (take l.i (entries l.snapshot))
