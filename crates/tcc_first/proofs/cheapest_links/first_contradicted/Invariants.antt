use Rattle.tcc_first.proofs.CheapestLemmas.{AreContradicted}
use Rattle.tcc_first.proofs.cheapest_links.first_contradicted.Given as goal

abbrev pub invariant-loop-index : goal.invariant-loop-index
invariant-loop-index l = AreContradicted l.graph l.from l.source l.readers l.key_indices l.index l.first
