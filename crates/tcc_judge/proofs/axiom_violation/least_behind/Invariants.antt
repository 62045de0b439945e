use Rattle.std.proofs.Common.{◌+◌}
use Rattle.tcc_judge.specs.private.Least.{IsLeastOf}
use Rattle.tcc_judge.specs.private.Behind.{IsBehindBy}
use Rattle.tcc_judge.specs.private.Readings.{IsByFirst}
use Rattle.tcc_judge.proofs.axiom_violation.least_behind.Given as goal

abbrev pub invariant-loop-index : goal.invariant-loop-index
invariant-loop-index l =
    IsLeastOf (IsByFirst l.graph l.readers l.key_indices (IsBehindBy l.graph l.order l.block.from (l.place + 1)) l.index) l.least
