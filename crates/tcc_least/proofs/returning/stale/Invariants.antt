use Rattle.tcc_least.specs.private.Places.{IsAsGood}
use Rattle.tcc_least.proofs.ReturnLemmas.{AreStale}
use Rattle.tcc_least.proofs.returning.stale.Given as goal

abbrev pub invariant-loop-key_index : goal.invariant-loop-key_index
invariant-loop-key_index l = IsAsGood l.graph l.initial.least l.least × AreStale l.graph l.writer l.key_index-items l.key_index-index l.least
