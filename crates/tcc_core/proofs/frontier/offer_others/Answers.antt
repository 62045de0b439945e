use Rattle.std.proofs.Common.{arith}
use Rattle.tcc_core.specs.private.Offers.{IsOffered, IsWayBy}
use Rattle.tcc_core.specs.private.Levels.{IsClassWay}
use Rattle.tcc_core.proofs.LedOn.{classes_of, offered_classes, offered_others}
use Rattle.tcc_core.proofs.frontier.offer_others.Goals as goal

pub offer_classes-requires-clause-classes : goal.offer_classes-requires-clause-classes
offer_classes-requires-clause-classes c =
    rw (c.deref.ensures.value, c.requires.long) (classes_of c.args.prices.now c.args.u c.by_class-links.result.now c.by_class-links.ensures)

pub returns-then-are_classed-clause-offered : goal.returns-then-are_classed-clause-offered
returns-then-are_classed-clause-offered c = λ j priced.
    let links = c.by_class-links.result.now in
    let mid = c.offer_classes.new.queue.costs in
    let first : IsOffered (IsClassWay links.classes.items c.args.start c.args.so_far c.args.left) c.args.queue.now.floor c.args.queue.now.costs mid =
    rw c.deref.ensures.value at c.offer_classes.ensures.offered in
    let then : IsOffered (IsWayBy links.rest c.args.start c.args.so_far c.args.left) c.args.queue.now.floor mid c.offer_cheapest.new.queue.costs =
    rw (c.as_slice.ensures, c.offer_classes.ensures.floor) at c.offer_cheapest.ensures.offered in
    offered_classes priced c.args.u (omega (arith, c.requires.below, priced.prices.long)) c.by_class-links.ensures
    (omega (arith, c.requires.long, priced.prices.long)) (c.are_classed.ensures c.if-are_classed.true) first then

pub returns-else-are_classed-clause-offered : goal.returns-else-are_classed-clause-offered
returns-else-are_classed-clause-offered c = λ j priced.
    offered_others priced c.args.u (omega (arith, c.requires.below, priced.prices.long)) (omega (arith, c.requires.long, priced.prices.long))
    (rw c.others.ensures.value at c.offer_within.ensures.offered)
