use Rattle.tcc_graph.specs.Levels.{judged}
use Rattle.tcc_judge.proofs.Between.{none_up_to}
use Rattle.tcc_judge.proofs.picking.first_below.Goals as goal

pub loop-turn-preserved : goal.loop-turn-preserved
loop-turn-preserved c =
    none_up_to (judged c.args.graph.now c.args.level) c.loop-turn._turn c.loop-turn.none c.next_cost-steps.result c.loop-turn.invariant
    c.next_cost-steps.ensures.from (rw c.in-None.is at c.in_ok-first.ensures)
