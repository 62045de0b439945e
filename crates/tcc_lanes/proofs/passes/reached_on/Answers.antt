use Rattle.tcc_lanes.proofs.PassLemmas.{reaching_more}
use Rattle.tcc_lanes.proofs.passes.reached_on.Goals as goal

pub loop-place-preserved : goal.loop-place-preserved
loop-place-preserved c =
    rw (c.is_reached-here.ensures, c.in_ok-push.ensures.items)
    (reaching_more c.args.order.now c.args.lasts.now c.args.covered.now c.loop-place.place c.loop-place.here c.loop-place.reached.items c.loop-place.invariant)
