use Rattle.tcc_reads.specs.History.{count}
use Rattle.tcc_graph.specs.Levels.{Judged, judged}
use Rattle.tcc_order.specs.private.Held.{holds}
use Rattle.tcc_order.specs.private.CausalLinks.{AreLinks}
use Rattle.tcc_order.specs.private.Numbering.{IsFirstOf}
use Rattle.tcc_order.specs.private.Placed.{IsStuckBy}
use Rattle.tcc_order.proofs.Finding.{first_kept}
use Rattle.tcc_order.proofs.LeftOver.{stuck_of}
use Rattle.tcc_order.proofs.commit_order.placed_with.Goals as goal

pub first_placing-requires-clause-inside : goal.first_placing-requires-clause-inside
first_placing-requires-clause-inside c =
    let j : Judged = judged c.args.graph.now c.args.level in
    let links : AreLinks j c.in-Kept.kept = rw c.in-Kept.is at c.requires.links in
    λ x b there. (links.derived x b there).1

pub returns-in-Order : goal.returns-in-Order
returns-in-Order c =
    let h = c.args.graph.now in
    let j : Judged = judged h c.args.level in
    let kept = c.in-Kept.kept in
    let links : AreLinks j kept = rw c.in-Kept.is at c.requires.links in
    let first : IsFirstOf (holds h kept) (count h) c.in-Order.order.items = rw c.in-Order.is at c.in_ok-order.ensures in
    first_kept j c.requires.numbered kept links c.in-Order.order.items first

pub returns-in-Stuck : goal.returns-in-Stuck
returns-in-Stuck c =
    let h = c.args.graph.now in
    let j : Judged = judged h c.args.level in
    let kept = c.in-Kept.kept in
    let links : AreLinks j kept = rw c.in-Kept.is at c.requires.links in
    let stuck : IsStuckBy (holds h kept) (count h) c.in-Stuck.placed.items = rw c.in-Stuck.is at c.in_ok-order.ensures in
    stuck_of j kept links.long links.derived c.in-Stuck.placed.items stuck
