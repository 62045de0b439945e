use Rattle.tcc_lanes.specs.private.Passes.{AreEnds}
use Rattle.tcc_lanes.proofs.nearness.ends.Given as goal

abbrev pub invariant-loop-last : goal.invariant-loop-last
invariant-loop-last l = AreEnds l.lasts l.last-index l.marks.items
