use Rattle.tcc_lanes.specs.private.Marks.{AreMarksOf}
use Rattle.tcc_lanes.proofs.marking.marks_of.Given as goal

abbrev pub invariant-loop-lane : goal.invariant-loop-lane
invariant-loop-lane l = AreMarksOf l.count l.indices l.lane l.marks.items
