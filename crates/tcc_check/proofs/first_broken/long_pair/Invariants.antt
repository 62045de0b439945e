use Rattle.tcc_check.specs.private.Searches.{HoldsBelow, IsLongPair}
use Rattle.tcc_check.proofs.first_broken.long_pair.Given as goal

abbrev pub invariant-loop-end : goal.invariant-loop-end
invariant-loop-end l = HoldsBelow l.end (IsLongPair l.graph l.row l.low l.start)
