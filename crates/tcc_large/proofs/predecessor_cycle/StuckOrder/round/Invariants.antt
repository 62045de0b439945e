use Rattle.tcc_graph.specs.Levels.{judged}
use Rattle.tcc_order.specs.Placements.{IsLeft}
use Rattle.tcc_large.proofs.Retraced.{IsTrail}
use Rattle.tcc_large.proofs.predecessor_cycle.StuckOrder.round.Given as goal

abbrev pub invariant-loop-position : goal.invariant-loop-position
invariant-loop-position l =
    IsTrail (judged l.self.graph.now l.self.level) l.positions l.at l.position l.trail.items × IsLeft (judged l.self.graph.now l.self.level) l.self.stuck.now.placed.items l.at
