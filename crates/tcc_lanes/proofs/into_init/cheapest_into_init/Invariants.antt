use Rattle.tcc_graph.specs.Levels.{judged}
use Rattle.tcc_lanes.specs.Among.{HasCheaperIntoInit}
use Rattle.tcc_lanes.proofs.IntoInit.{AreCostsHalved}
use Rattle.tcc_lanes.proofs.into_init.cheapest_into_init.Given as goal

abbrev pub invariant-loop-turn : goal.invariant-loop-turn
invariant-loop-turn l = AreCostsHalved (HasCheaperIntoInit (judged l.graph l.level) l.key_indices) l.most l._turn l.low l.high
