use Rattle.tcc_lanes.specs.private.Marks.{AreWriterMarks}
use Rattle.tcc_lanes.proofs.marking.writer_marks.Given as goal

abbrev pub invariant-loop-lane : goal.invariant-loop-lane
invariant-loop-lane l = AreWriterMarks l.graph l.writers l.lane l.marks.items
