use Rattle.tcc_check.proofs.Carried.{AreRunsTo}
use Rattle.tcc_check.proofs.runs.run_begins.Given as goal

abbrev pub invariant-loop-end : goal.invariant-loop-end
invariant-loop-end l = AreRunsTo l.end l.graph l.begin l.begins.items
