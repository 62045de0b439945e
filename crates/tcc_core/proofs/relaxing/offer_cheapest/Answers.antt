use Rattle.std.proofs.Common.{inl, arith}
use Rattle.tcc_core.proofs.Offered.{none_offered, next_offered, next_passed, all_offered, cheapest_offered}
use Rattle.tcc_core.proofs.relaxing.offer_cheapest.Goals.{then-to-start, else-to-start}
use Rattle.tcc_core.proofs.relaxing.offer_cheapest.Goals as goal

pub loop-to-init : goal.loop-to-init
loop-to-init c = none_offered c.args.links.now c.args.start c.args.so_far c.args.left c.args.queue.now

pub loop-to-preserved : goal.loop-to-preserved
loop-to-preserved c = elim c.if-to-start.branch [
  | then-to-start w ↦ rw (w.queue-is, w.offer.ensures)
      (next_offered c.loop-to.invariant c.requires.may c.loop-to-test.true w.if-to-start.true c.if-cost-left.false)
  | else-to-start w ↦ rw w.queue-is (next_passed c.loop-to.invariant (inl w.if-to-start.false))
]

pub returns-then-cost-left-clause-offered : goal.returns-then-cost-left-clause-offered
returns-then-cost-left-clause-offered c = cheapest_offered c.loop-to.invariant c.requires.ascending c.loop-to-test.true c.if-cost-left.true

pub returns-clause-offered : goal.returns-clause-offered
returns-clause-offered c = all_offered c.loop-to.invariant (omega (arith, c.loop-to.auto.to-index-end)) (omega (arith, c.loop-to-test.false))
