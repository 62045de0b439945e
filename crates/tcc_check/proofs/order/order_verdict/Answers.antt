use Rattle.std.proofs.Common.{inl, inr, refl, arith}
use Rattle.tcc_check.specs.private.Positions.{ArePositions}
use Rattle.tcc_check.proofs.Ordered.{sessions_kept, axiom_kept, positions_apart}
use Rattle.tcc_check.proofs.order.order_verdict.Goals as goal

pub keeps_axiom-requires : goal.keeps_axiom-requires
keeps_axiom-requires c =
    let kept = rw c.in-Some.is at c.in_ok-positions.ensures in
    let are : ArePositions c.args.claim.now.order c.deref.result.now = rw c.deref.ensures.value kept.0 in
    let sizes = c.has_order_sizes.ensures.sizes.0 c.if-not-has_order_sizes.false in
    record {
      sessions = record {
        numbered = c.has_order_sizes.ensures.numbered;
        long = omega (arith, are.long, sizes.order);
        kept = sessions_kept c.args.graph.now c.args.claim.now c.deref.result.now are sizes.order kept.1;
      };
      apart = positions_apart c.args.claim.now.order c.deref.result.now are;
      few = c.requires.few_sessions;
      sized = rw c.as_slice.ensures sizes.clocks;
    }

pub returns-then-kept : goal.returns-then-kept
returns-then-kept c =
    let kept = rw c.in-Some.is at c.in_ok-positions.ensures in
    let are : ArePositions c.args.claim.now.order c.deref.result.now = rw c.deref.ensures.value kept.0 in
    let sizes = c.has_order_sizes.ensures.sizes.0 c.if-not-has_order_sizes.false in (
      sizes,
      (
        kept.1,
        (
          axiom_kept c.args.graph.now c.args.claim.now c.deref.result.now are sizes.order
              (rw (← c.as_slice.ensures) (c.in_ok-kept.ensures c.if-kept.true)),
          tt,
        ),
      ),
    )

pub broken_axiom-requires-clause-positions : goal.broken_axiom-requires-clause-positions
broken_axiom-requires-clause-positions c =
    let kept = rw c.in-Some.is at c.in_ok-positions.ensures in
    rw c.deref-2.ensures.value kept.0

pub returns-in-Some-2 : goal.returns-in-Some-2
returns-in-Some-2 c =
    let sizes = c.has_order_sizes.ensures.sizes.0 c.if-not-has_order_sizes.false in
    let kept = rw c.in-Some.is at c.in_ok-positions.ensures in
    let first = rw c.in-Some-2.is at c.in_ok-at.ensures in
    inr (sizes, inr (kept.1, inl (refl, first)))

pub returns : goal.returns
returns c =
    let sizes = c.has_order_sizes.ensures.sizes.0 c.if-not-has_order_sizes.false in
    let kept = rw c.in-Some.is at c.in_ok-positions.ensures in
    let none = rw c.in-None.is at c.in_ok-at.ensures in
    (sizes, (kept.1, (none, tt)))
