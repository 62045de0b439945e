use Rattle.tcc_lanes.specs.private.Lowering.{steps_at}
use Rattle.tcc_lanes.proofs.LengthLemmas.{IsLeastIn}
use Rattle.tcc_lanes.proofs.lengths.least_at_sources.Given as goal

abbrev pub invariant-loop-read : goal.invariant-loop-read
invariant-loop-read l = IsLeastIn (steps_at l.level l.from l.lengths) l.read-items l.read-index l.least
