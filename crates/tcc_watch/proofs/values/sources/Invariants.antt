use Rattle.tcc_watch.specs.private.Values.{AreSourcesBelow}
use Rattle.tcc_watch.proofs.values.sources.Given as goal

abbrev pub invariant-loop-index : goal.invariant-loop-index
invariant-loop-index l = AreSourcesBelow l.values l.ops l.index l.reads.items
