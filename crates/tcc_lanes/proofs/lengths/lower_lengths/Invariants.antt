use Rattle.tcc_graph.specs.Levels.{judged}
use Rattle.tcc_lanes.proofs.LengthLemmas.{AreSwept}
use Rattle.tcc_lanes.proofs.Spread.{IsStillTo}
use Rattle.tcc_lanes.proofs.lengths.lower_lengths.Given as goal

abbrev pub invariant-loop-v : goal.invariant-loop-v
invariant-loop-v l = record {
  swept : AreSwept (judged l.graph l.level) l.from l.most l.initial.lengths l.v l.run l.lengths;
  still : IsStillTo l.initial.lengths l.v l.is_new l.lengths;
}
