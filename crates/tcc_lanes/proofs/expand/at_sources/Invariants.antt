use Rattle.tcc_lanes.proofs.Spread.{AreIn}
use Rattle.tcc_lanes.proofs.expand.at_sources.Given as goal

abbrev pub invariant-loop-read : goal.invariant-loop-read
invariant-loop-read l = AreIn l.marks l.read-items l.read-index l.word
