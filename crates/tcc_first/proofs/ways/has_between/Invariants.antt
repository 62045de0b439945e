use Rattle.tcc_least.proofs.RoundLemmas.{NoneLeads}
use Rattle.tcc_first.proofs.ways.has_between.Given as goal

abbrev pub invariant-loop-read : goal.invariant-loop-read
invariant-loop-read l = NoneLeads l.graph l.from l.read-items l.read-index
