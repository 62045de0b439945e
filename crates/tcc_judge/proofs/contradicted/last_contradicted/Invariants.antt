use Rattle.std.proofs.Common.{◌+◌}
use Rattle.tcc_judge.specs.private.Contradicted.{IsBehindAt, IsGreatestOf}
use Rattle.tcc_judge.specs.private.Readings.{IsByFirst}
use Rattle.tcc_judge.proofs.contradicted.last_contradicted.Given as goal

abbrev pub invariant-loop-index : goal.invariant-loop-index
invariant-loop-index l =
    IsGreatestOf (IsByFirst l.graph l.readers l.key_indices (IsBehindAt l.graph l.order l.positions l.block.from (l.place + 1)) l.index) l.last
