-- The positions keep the pairs exactly where the order and its clocks do.
use Rattle.std.proofs.lemmas.Bool.{iff_false}
use Rattle.tcc_check.specs.private.Positions.{ArePositions}
use Rattle.tcc_check.proofs.Ordered.{pairs_kept, kept_pairs}
use Rattle.tcc_check.proofs.order.kept_positions.Goals as goal

pub returns-then-not-keeps_pairs : goal.returns-then-not-keeps_pairs
returns-then-not-keeps_pairs c =
    let k = c.args.claim.now in
    let are : ArePositions k.order c.deref.result.now = rw (c.deref.ensures.value, ← c.as_slice.ensures) (rw c.in-Some.is at c.in_ok-positions.ensures) in
    λ kept. iff_false c.keeps_pairs.ensures c.if-not-keeps_pairs.true
    (kept_pairs c.args.graph.now k c.deref.result.now are c.requires.sizes.order kept)

pub returns : goal.returns
returns c =
    let k = c.args.claim.now in
    let positions : ArePositions k.order c.in-Some.positions.items = rw (← c.as_slice.ensures) (rw c.in-Some.is at c.in_ok-positions.ensures) in
    let are : ArePositions k.order c.deref.result.now = rw c.deref.ensures.value positions in (
      positions,
      pairs_kept c.args.graph.now k c.deref.result.now are c.requires.sizes.order
          (c.keeps_pairs.ensures.0 c.if-not-keeps_pairs.false),
    )
