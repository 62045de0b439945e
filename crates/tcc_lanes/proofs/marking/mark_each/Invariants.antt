use Rattle.tcc_lanes.proofs.MarkLemmas.{AreMarkedIn}
use Rattle.tcc_lanes.proofs.marking.mark_each.Given as goal

abbrev pub invariant-loop-index : goal.invariant-loop-index
invariant-loop-index l = AreMarkedIn l.indices l.lane l.initial.marks l.index-index l.marks
