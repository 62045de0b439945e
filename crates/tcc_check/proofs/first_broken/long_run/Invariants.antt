use Rattle.std.proofs.Common.{◌+◌}
use Rattle.tcc_check.specs.private.Searches.{HoldsBelow, IsLongRunTo}
use Rattle.tcc_check.proofs.Carried.{IsCarried}
use Rattle.tcc_check.proofs.first_broken.long_run.Given as goal

abbrev pub invariant-loop-index : goal.invariant-loop-index
invariant-loop-index l = HoldsBelow (l.low + l.index) (IsLongRunTo l.begins l.row l.low) × IsCarried l.begins l.row l.low (l.low + l.index) l.opening l.least
