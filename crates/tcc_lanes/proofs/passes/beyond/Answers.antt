use Rattle.std.proofs.Common.{◌≡◌, ◌<◌, ◌≤◌, ◌+◌, ◌-◌, ℕ, length, get_or, subst, arith}
use Rattle.tcc_lanes.specs.declared.pricing.TheConstants.{NONE}
use Rattle.tcc_lanes.specs.private.Passes.{IsBeyond, IsLeastPrice, price_at}
use Rattle.tcc_lanes.proofs.PassLemmas.{IsGoingBack, beyond_none, beyond_some, going_more}
use Rattle.tcc_lanes.proofs.passes.beyond.Goals.{then-covered-place, else-covered-place}
use Rattle.tcc_lanes.proofs.passes.beyond.Goals as goal

pub loop-place-preserved : goal.loop-place-preserved
loop-place-preserved c =
    let order = c.args.order.now in
    let prices = c.args.prices.now in
    let covered = c.args.covered.now in
    let later = c.loop-place.later in
    let found = c.loop-place.found.items in
    let place : ℕ = c.loop-place.place - 1 in
    let was : c.loop-place.place ≡ place + 1 = omega arith in
    let inside : place < length order = omega arith in
    let w : IsGoingBack order prices covered (place + 1) later found = subst (λ (p : ℕ). IsGoingBack order prices covered p later found) was c.loop-place.invariant in
    let high : price_at order prices place ≤ NONE = c.requires.prices.high (get_or order place 0) (c.requires.inside place 0 inside) in
    let here : IsLeastPrice (IsBeyond order prices covered place) c.if-covered-place.here
    = elim c.if-covered-place.branch [
      | then-covered-place w2 ↦ rw w2.here-is (beyond_some order prices covered place later found inside w w2.if-covered-place.true)
      | else-covered-place w2 ↦ rw w2.here-is (beyond_none order prices covered place later found inside w w2.if-covered-place.false)
    ] in
    rw c.min-later.ensures (going_more order prices covered place later found inside w c.if-covered-place.here here high)
