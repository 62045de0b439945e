use Rattle.std.proofs.Common.{false, get_or, arith}
use Rattle.std.specs.Prelude.{nat_lt}
use Rattle.std.proofs.lemmas.Bool.{lt-ltb, ltb-true}
use Rattle.tcc_lanes.proofs.NearnessLemmas.{near_at}
use Rattle.tcc_lanes.proofs.nearness.is_near_at.Goals as goal

pub returns : goal.returns
returns c = λ h order covered led_is reached_is least.
    let prices = c.args.prices.now in
    let lasts = c.args.lasts.now in
    let at = c.args.at in
    let last = get_or lasts at 0 in
    let near =
    near_at h order prices lasts covered c.args.most (omega (arith, c.ranges.most.fits)) c.args.place at (nat_lt 0 last) c.has_lane.result
    (get_or c.args.reached.now c.args.place false) ((λ t. ltb-true 0 last t), (λ less. lt-ltb 0 last less))
    ((λ t. led_is.0 (c.has_lane.ensures.0 t)), (λ is. c.has_lane.ensures.1 (led_is.1 is))) reached_is (get_or c.args.beyond.now c.args.place 0) least in
    let told = rw c.comes_at-comes.ensures at c.is_near.ensures in
    ((λ t. near.0 (told.0 t)), (λ is. told.1 (near.1 is)))
