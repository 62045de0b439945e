use Rattle.tcc_order.specs.Placements.{ArePairsStuck}
use Rattle.tcc_order.proofs.LeftOver.{pairs_circle}
use Rattle.tcc_order.proofs.commit_order.order_of_pairs.Goals as goal

pub returns-in-Stuck : goal.returns-in-Stuck
returns-in-Stuck c =
    let h = c.args.graph.now in
    let placed = c.in-Stuck._placed in
    let is : ArePairsStuck h placed.items = rw c.in-Stuck.is at c.in_ok-order.ensures in
    pairs_circle h c.numbered.ensures.numbered placed.items is
