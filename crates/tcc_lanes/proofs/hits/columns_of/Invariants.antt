use Rattle.tcc_lanes.proofs.MeetingLemmas.{AreColumnsTo}
use Rattle.tcc_lanes.proofs.hits.columns_of.Given as goal

abbrev pub invariant-loop-column : goal.invariant-loop-column
invariant-loop-column l = AreColumnsTo l.graph l.members l.column l.columns.items
