use Rattle.tcc_near.specs.private.ClockRows.{AreLastsBelow}
use Rattle.tcc_near.proofs.vector_clocks.lasts_of.Given as goal

abbrev pub invariant-loop-b : goal.invariant-loop-b
invariant-loop-b l = AreLastsBelow l.graph l.session l.b l.lasts.items
