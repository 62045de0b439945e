use Rattle.std.proofs.Common.{inl, inr, arith}
use Rattle.tcc_core.proofs.Offered.{none_offered, next_offered, next_passed, all_offered}
use Rattle.tcc_core.proofs.relaxing.offer_within.Goals.{then-cost-left+then-to-start, else-cost-left}
use Rattle.tcc_core.proofs.relaxing.offer_within.Goals.{else-cost-left-via-then-cost-left+else-to-start}
use Rattle.tcc_core.proofs.relaxing.offer_within.Goals.{else-cost-left-via-else-cost-left}
use Rattle.tcc_core.proofs.relaxing.offer_within.Goals as goal

pub loop-to-init : goal.loop-to-init
loop-to-init c = none_offered c.args.links.now c.args.start c.args.so_far c.args.left c.args.queue.now

pub loop-to-preserved : goal.loop-to-preserved
loop-to-preserved c = elim c.if-cost-left.branch [
  | then-cost-left+then-to-start w ↦ rw (w.queue-is, w.offer.ensures)
      (next_offered c.loop-to.invariant c.requires c.loop-to-test.true w.if-to-start.true w.if-cost-left.true)
  | else-cost-left w ↦ rw w.queue-is (elim w.else-cost-left.branch [
    | else-cost-left-via-then-cost-left+else-to-start v ↦ next_passed c.loop-to.invariant (inl v.if-to-start.false)
    | else-cost-left-via-else-cost-left v ↦ next_passed c.loop-to.invariant (inr v.if-cost-left.false)
  ])
]

pub returns-clause-offered : goal.returns-clause-offered
returns-clause-offered c = all_offered c.loop-to.invariant (omega (arith, c.loop-to.auto.to-index-end)) (omega (arith, c.loop-to-test.false))
