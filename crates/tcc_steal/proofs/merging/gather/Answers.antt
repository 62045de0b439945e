use Rattle.std.proofs.Common.{◌≡◌, ◌++◌, length, take, drop, ℕ, ◌∙◌, ap, sym, subst, arith}
use lib.Seq.{take-append_seam}
use Rattle.tcc_steal.specs.private.Working.{AreShares, AreKept, MayTakeIn}
use Rattle.tcc_steal.proofs.Slots.{next_share}
use Rattle.tcc_steal.proofs.merging.gather.Goals as goal

pub take_in-requires : goal.take_in-requires
take_in-requires c =
    let t = c.args.prices.now in
    let (workers, all) = c.requires.shares in
    let (shares, kept) = c.loop-share.invariant.1 workers all in (
      t,
      workers,
      (next_share c.loop-share.invariant.0 (ap length c.as_mut_slice.ensures.value ∙ c.loop-share.invariant.2)
          (subst (AreKept t workers c.loop-share.seat.known) (sym c.as_mut_slice.ensures.value) kept) c.loop-share.shares.items c.pop.new.self.items
          c.in-Some.share c.in_ok-share.field-0 c.in-Some.ensures.items c.in_ok-share.was shares).0,
    )

pub loop-share-preserved : goal.loop-share-preserved
loop-share-preserved c =
    let t = c.args.prices.now in
    let new = c.take_in.new.slots in
    let old = c.loop-share.slots.items in
    let long : c.loop-share.slots.len ≡ length new = omega (arith, c.as_mut_slice.ensures.len, c.take_in.ensures.long) in
    let whole : take c.loop-share.slots.len (new ++ drop (length new) old) ≡ new =
    ap (λ (n : ℕ). take n (new ++ drop (length new) old)) long ∙ take-append_seam new (drop (length new) old) in
    let next : (workers : ℕ) → AreShares t c.args.bound.now workers c.args.shares.items
    → MayTakeIn t c.args.bound.now workers c.loop-share.seat c.as_mut_slice.result.now c.in_ok-share.field-0
    × AreShares t c.args.bound.now workers c.pop.new.self.items = λ workers all.
    let (shares, kept) = c.loop-share.invariant.1 workers all in
    next_share c.loop-share.invariant.0 (ap length c.as_mut_slice.ensures.value ∙ c.loop-share.invariant.2)
    (subst (AreKept t workers c.loop-share.seat.known) (sym c.as_mut_slice.ensures.value) kept) c.loop-share.shares.items c.pop.new.self.items
    c.in-Some.share c.in_ok-share.field-0 c.in-Some.ensures.items c.in_ok-share.was shares in
    let (some, all) = c.requires.shares in
    rw whole (
      (c.take_in.ensures.taken t some (next some all).0).seat,
      λ workers from. (let (may, left) = next workers from in (left, (c.take_in.ensures.taken t workers may).kept)),
      c.take_in.ensures.long
          ∙ (ap length c.as_mut_slice.ensures.value ∙ c.loop-share.invariant.2),
    )
