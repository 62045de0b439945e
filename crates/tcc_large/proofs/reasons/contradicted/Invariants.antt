use Rattle.tcc_graph.specs.Relations.{reads_from}
use Rattle.tcc_large.proofs.ReasonLemmas.{WritesNone}
use Rattle.tcc_large.proofs.reasons.contradicted.Given as goal

abbrev pub invariant-loop-key_index : goal.invariant-loop-key_index
invariant-loop-key_index l = WritesNone l.graph l.from (reads_from l.graph l.to l.reader) l.key_index-index
