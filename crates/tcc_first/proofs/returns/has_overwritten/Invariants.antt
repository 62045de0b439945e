use Rattle.tcc_first.proofs.ReturnLemmas.{NoneOverwritten}
use Rattle.tcc_first.proofs.returns.has_overwritten.Given as goal

abbrev pub invariant-loop-index : goal.invariant-loop-index
invariant-loop-index l = NoneOverwritten l.graph l.from l.readers l.key_indices l.index
