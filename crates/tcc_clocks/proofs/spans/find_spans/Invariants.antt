use Rattle.tcc_clocks.specs.Spans.{AreSpans}
use Rattle.tcc_clocks.proofs.spans.find_spans.Given as goal

abbrev pub invariant-loop-index : goal.invariant-loop-index
invariant-loop-index l = AreSpans l.graph l.bounds.0 l.bounds.1 l.spans.items l.index
