use Rattle.tcc_judge.proofs.SourceLemmas.{NoneReaching}
use Rattle.tcc_judge.proofs.sources.is_reaching.Given as goal

abbrev pub invariant-loop-key_index : goal.invariant-loop-key_index
invariant-loop-key_index l = NoneReaching l.key_index-items l.gaps l.session l.b l.key_index-index
