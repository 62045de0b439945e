use Rattle.tcc_check.specs.private.Searches.{HoldsBelow}
use Rattle.tcc_check.specs.private.Positions.{IsBehind}
use Rattle.tcc_check.proofs.order.first_behind.Given as goal

abbrev pub invariant-loop-a : goal.invariant-loop-a
invariant-loop-a l = HoldsBelow l.a (IsBehind l.weights l.positions l.b)
