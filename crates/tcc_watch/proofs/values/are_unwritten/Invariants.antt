use Rattle.tcc_watch.specs.private.Values.{AreUnwrittenBelow}
use Rattle.tcc_watch.proofs.values.are_unwritten.Given as goal

abbrev pub invariant-loop-index : goal.invariant-loop-index
invariant-loop-index l = AreUnwrittenBelow l.values l.ops l.index
