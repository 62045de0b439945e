use Rattle.tcc_judge.specs.private.Least.{IsFoundFirst}
use Rattle.tcc_judge.specs.private.Singles.{IsBrokenBelow}
use Rattle.tcc_judge.proofs.singles.first_single.Given as goal

abbrev pub invariant-loop-a : goal.invariant-loop-a
invariant-loop-a l = IsFoundFirst (IsBrokenBelow l.graph l.order l.a) l.found
