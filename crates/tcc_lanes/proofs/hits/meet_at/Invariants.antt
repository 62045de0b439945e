use Rattle.tcc_lanes.proofs.MeetingLemmas.{AreGrown, MetTo}
use Rattle.tcc_lanes.proofs.hits.meet_at.Given as goal

abbrev pub invariant-loop-read : goal.invariant-loop-read
invariant-loop-read l = AreGrown l.initial.found l.found (MetTo l.columns l.writers l.word l.read-items l.initial.found l.read-index)
