use Rattle.tcc_least.proofs.RoundLemmas.{NoneLeads}
use Rattle.tcc_least.proofs.building.source_of_source.Given as goal

abbrev pub invariant-loop-read : goal.invariant-loop-read
invariant-loop-read l = NoneLeads l.graph l.reader l.read-items l.read-index
