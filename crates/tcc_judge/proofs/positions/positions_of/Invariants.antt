use Rattle.tcc_judge.proofs.PositionLemmas.{ArePositionsTo}
use Rattle.tcc_judge.proofs.positions.positions_of.Given as goal

abbrev pub invariant-loop-position : goal.invariant-loop-position
invariant-loop-position l = ArePositionsTo l.count l.position l.order l.positions.items
