use Rattle.tcc_slices.proofs.OneByOne.{AreLinks}
use Rattle.tcc_slices.proofs.growing.first_missing.Given as goal
use Rattle.tcc_graph.specs.Levels.{judged}

abbrev pub invariant-loop-index : goal.invariant-loop-index
invariant-loop-index l = AreLinks (judged l.graph l.level) l.links l.index
