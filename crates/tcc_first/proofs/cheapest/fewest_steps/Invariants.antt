use Rattle.tcc_first.proofs.LongLemmas.{AreFewest}
use Rattle.tcc_first.proofs.cheapest.fewest_steps.Given as goal

abbrev pub invariant-loop-index : goal.invariant-loop-index
invariant-loop-index l = AreFewest l.graph l.lengths l.from l.source l.readers l.key_indices l.index l.fewest
