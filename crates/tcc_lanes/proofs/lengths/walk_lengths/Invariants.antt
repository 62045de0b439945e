use Rattle.tcc_graph.specs.Levels.{judged}
use Rattle.tcc_lanes.proofs.LengthLemmas.{AreMeasured}
use Rattle.tcc_lanes.proofs.lengths.walk_lengths.Given as goal

abbrev pub invariant-loop-sweep : goal.invariant-loop-sweep
invariant-loop-sweep l = AreMeasured (judged l.graph l.level) l.from l.most l._sweep l.lengths.items
