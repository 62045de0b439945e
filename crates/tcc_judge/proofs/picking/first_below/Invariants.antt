use Rattle.tcc_graph.specs.Levels.{judged}
use Rattle.tcc_judge.specs.private.Picking.{IsNoneYet}
use Rattle.tcc_judge.proofs.picking.first_below.Given as goal

abbrev pub invariant-loop-turn : goal.invariant-loop-turn
invariant-loop-turn l = IsNoneYet (judged l.graph l.level) l._turn l.none
