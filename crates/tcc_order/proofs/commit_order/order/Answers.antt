use Rattle.tcc_graph.specs.Levels.{judged}
use Rattle.tcc_order.specs.Placements.{IsStuck}
use Rattle.tcc_order.proofs.LeftOver.{stuck_cycle}
use Rattle.tcc_order.proofs.commit_order.order.Goals as goal

pub returns-in-Stuck : goal.returns-in-Stuck
returns-in-Stuck c =
    let j = judged c.args.graph.now c.args.level in
    let stuck = c.in-Stuck._stuck in
    let is : IsStuck j stuck.kept stuck.placed.items = rw c.in-Stuck.is at c.in_ok-order.ensures in
    stuck_cycle j stuck.kept c.numbered.ensures.numbered stuck.placed.items is
