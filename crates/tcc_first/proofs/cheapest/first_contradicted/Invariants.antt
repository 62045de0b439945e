use Rattle.tcc_first.proofs.LongLemmas.{AreFound}
use Rattle.tcc_first.proofs.cheapest.first_contradicted.Given as goal

abbrev pub invariant-loop-index : goal.invariant-loop-index
invariant-loop-index l = AreFound l.graph l.lengths l.steps l.from l.source l.readers l.key_indices l.index l.first
