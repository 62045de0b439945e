use Rattle.tcc_judge.proofs.PositionLemmas.{IsTurnedBelow}
use Rattle.tcc_judge.proofs.first_backward_read.first_turned.Given as goal

abbrev pub invariant-loop-a : goal.invariant-loop-a
invariant-loop-a l = IsTurnedBelow l.graph l.positions l.a
