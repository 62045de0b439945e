use Rattle.tcc_lanes.specs.private.Pricing.{IsMetIn}
use Rattle.tcc_lanes.proofs.MeetingLemmas.{AreGrown}
use Rattle.tcc_lanes.proofs.hits.meet.Given as goal

abbrev pub invariant-loop-reader : goal.invariant-loop-reader
invariant-loop-reader l = AreGrown l.initial.found l.found (IsMetIn l.graph l.columns l.writers l.reached l.reader)
