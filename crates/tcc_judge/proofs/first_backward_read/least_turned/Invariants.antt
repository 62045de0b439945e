use Rattle.tcc_judge.specs.private.Least.{IsLeastOf}
use Rattle.tcc_judge.proofs.PositionLemmas.{IsTurnedIn}
use Rattle.tcc_judge.proofs.first_backward_read.least_turned.Given as goal

abbrev pub invariant-loop-reader : goal.invariant-loop-reader
invariant-loop-reader l = IsLeastOf (IsTurnedIn l.readers l.positions l.a l.reader-index) l.least
