use Rattle.tcc_reads.specs.History.{count}
use Rattle.tcc_order.specs.private.Held.{holds}
use Rattle.tcc_order.specs.private.Numbering.{IsFirstOf}
use Rattle.tcc_order.specs.private.Placed.{IsStuckBy}
use Rattle.tcc_order.proofs.EmptyRows.{nothing_kept}
use Rattle.tcc_order.proofs.Finding.{pairs_first}
use Rattle.tcc_order.proofs.LeftOver.{pairs_left}
use Rattle.tcc_order.proofs.commit_order.place_pairs.Goals as goal

pub first_placing-requires-clause-inside : goal.first_placing-requires-clause-inside
first_placing-requires-clause-inside c = λ x b there. absurd (nothing_kept c.in_ok-none.none c.in_ok-none.ensures.none x b there)

pub returns-in-Order : goal.returns-in-Order
returns-in-Order c =
    let h = c.args.graph.now in
    let none = c.in_ok-none.none in
    let order = c.in-Order.order.items in
    let first : IsFirstOf (holds h none) (count h) order = rw c.in-Order.is at c.in_ok-order.ensures in
    (first.is_order.numbering, pairs_first h c.numbered.ensures.numbered none order first.is_order)

pub returns : goal.returns
returns c =
    let h = c.args.graph.now in
    let none = c.in_ok-none.none in
    let placed = c.in-Stuck.placed.items in
    let stuck : IsStuckBy (holds h none) (count h) placed = rw c.in-Stuck.is at c.in_ok-order.ensures in
    pairs_left h none c.in_ok-none.ensures.none placed stuck
