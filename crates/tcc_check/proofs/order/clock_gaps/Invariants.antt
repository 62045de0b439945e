use Rattle.tcc_graph.specs.declared.level.Level.TheVariants.{Causal}
use Rattle.tcc_check.proofs.Gaps.{IsGapRowTo}
use Rattle.tcc_check.proofs.order.clock_gaps.Given as goal

abbrev pub invariant-loop-c : goal.invariant-loop-c
invariant-loop-c l = IsGapRowTo l.c l.graph Causal l.clocks l.b l.row.items
