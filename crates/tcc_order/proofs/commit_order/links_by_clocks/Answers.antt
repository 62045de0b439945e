use Rattle.tcc_reads.specs.History.{count}
use Rattle.std.proofs.Common.{◌∙◌}
use Rattle.tcc_graph.specs.Levels.{causally}
use Rattle.tcc_order.specs.private.Held.{holds}
use Rattle.tcc_order.specs.private.CausalLinks.{Derives}
use Rattle.tcc_order.specs.private.Numbering.{IsFirstOf}
use Rattle.tcc_order.specs.private.Placed.{IsStuckBy}
use Rattle.tcc_order.proofs.EmptyRows.{nothing_kept}
use Rattle.tcc_order.proofs.Finding.{none_derived, pairs_first}
use Rattle.tcc_order.proofs.LeftOver.{stuck_of}
use Rattle.tcc_order.proofs.commit_order.links_by_clocks.Goals as goal

pub first_placing-requires-clause-inside : goal.first_placing-requires-clause-inside
first_placing-requires-clause-inside c = λ x b there. absurd (nothing_kept c.in_ok-none.none c.in_ok-none.ensures.none x b there)

pub causal_links-requires-clause-onward : goal.causal_links-requires-clause-onward
causal_links-requires-clause-onward c =
    let h = c.args.graph.now in
    let none = c.in_ok-none.none in
    let order = c.in-Order.order.items in
    let first : IsFirstOf (holds h none) (count h) order = rw c.in-Order.is at c.in_ok-order.ensures in
    rw c.deref.ensures.value (pairs_first h c.requires.numbered none order first.is_order)

pub returns-in-Stuck : goal.returns-in-Stuck
returns-in-Stuck c =
    let h = c.args.graph.now in
    let none = c.in_ok-none.none in
    let placed = c.in-Stuck.placed.items in
    let stuck : IsStuckBy (holds h none) (count h) placed = rw c.in-Stuck.is at c.in_ok-order.ensures in
    stuck_of (causally h) none (c.in_ok-none.ensures.long ∙ c.count.ensures.value) (none_derived (Derives (causally h)) none c.in_ok-none.ensures.none) placed stuck
