use Rattle.tcc_judge.specs.private.Least.{IsLeastOf}
use Rattle.tcc_judge.specs.private.Readings.{IsByFirst}
use Rattle.tcc_judge.specs.private.Singles.{IsSingleBy}
use Rattle.tcc_judge.proofs.singles.least_single.Given as goal

abbrev pub invariant-loop-index : goal.invariant-loop-index
invariant-loop-index l = IsLeastOf (IsByFirst l.graph l.readers l.key_indices (IsSingleBy l.graph l.positions l.a) l.index) l.least
