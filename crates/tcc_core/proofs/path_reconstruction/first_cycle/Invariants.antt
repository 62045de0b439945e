use Rattle.tcc_core.proofs.WayLemmas.{IsUnderWay}
use Rattle.tcc_core.proofs.path_reconstruction.first_cycle.Given as goal
use Rattle.tcc_graph.specs.Levels.{judged}

abbrev pub invariant-loop-left : goal.invariant-loop-left
invariant-loop-left l = IsUnderWay (judged l.graph l.near.level) l.back l.end l.left l.picked.items

abbrev pub decreases-loop-left : goal.decreases-loop-left
decreases-loop-left l = l.left
