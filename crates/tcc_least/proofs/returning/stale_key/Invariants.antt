use Rattle.tcc_graph.specs.Keys.{key_at}
use Rattle.tcc_least.specs.private.Places.{IsAsGood}
use Rattle.tcc_least.proofs.ReturnLemmas.{AreStaleKey}
use Rattle.tcc_least.proofs.returning.stale_key.Given as goal

abbrev pub invariant-loop-read : goal.invariant-loop-read
invariant-loop-read l =
    IsAsGood l.graph l.initial.least l.least × AreStaleKey l.graph l.writer l.read-items (key_at l.graph l.key_index) l.read-index l.least
