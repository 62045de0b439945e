use Rattle.std.proofs.Common.{◌<◌, ◌↔◌, ℕ, length, get_or, arith}
use Rattle.tcc_reads.specs.History.{count}
use Rattle.tcc_lanes.specs.private.Marks.{IsAt}
use Rattle.tcc_lanes.specs.private.Passes.{AreBeyond, AreReachedOn, IsLedFromEnd}
use Rattle.tcc_lanes.proofs.NearnessLemmas.{near_more}
use Rattle.tcc_lanes.proofs.nearness.mark_near.Goals as goal

pub loop-place-preserved : goal.loop-place-preserved
loop-place-preserved c =
    let h = c.args.graph.now in
    let order = c.args.order.now in
    let prices = c.args.found.now.prices.items in
    let lasts = c.args.found.now.lasts.items in
    let covered = c.in_ok-covered.covered.items in
    let place = c.loop-place.place in
    let v = get_or order place 0 in
    let inside : place < length order = c.loop-place-test.true in
    let below : v < count h = c.requires.numbering.below place 0 inside in
    let led : (u : ℕ) → u < count h → IsAt c.in_ok-led.led.items u 0 ↔ IsLedFromEnd h lasts u = rw c.deref-6.ensures.value at c.in_ok-led.ensures.each in
    let reached : AreReachedOn order lasts covered (length order) c.in_ok-reached.reached.items
    = rw (c.deref-2.ensures.value, c.deref-3.ensures.value) at c.in_ok-reached.ensures in
    let beyond : AreBeyond order prices covered 0 c.in_ok-beyond.beyond.items = rw (c.deref-4.ensures.value, c.deref-5.ensures.value) at c.in_ok-beyond.ensures in
    let told =
    rw (
      c.deref-in-loop-place.ensures.value,
      c.deref-in-loop-place-2.ensures.value,
      c.deref-in-loop-place-3.ensures.value,
      c.deref-in-loop-place-4.ensures.value,
      c.deref-in-loop-place-5.ensures.value,
    ) at c.is_near_at.ensures in
    near_more h order prices lasts covered c.args.most c.requires.numbering place c.loop-place.marks.items c.is_near_at.result inside c.loop-place.invariant
    (told h order covered (led v below) (reached.each place inside) (beyond.each place (omega arith) inside))
