use Rattle.tcc_graph.specs.Levels.{judged}
use Rattle.tcc_lanes.proofs.IntoInit.{AreHalved}
use Rattle.tcc_lanes.proofs.into_init.lowest_in_tile.Given as goal

abbrev pub invariant-loop-turn : goal.invariant-loop-turn
invariant-loop-turn l = AreHalved (judged l.graph l.level) l.most l.end l.key_indices l._turn l.low l.high
