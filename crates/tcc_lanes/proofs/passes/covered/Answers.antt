use Rattle.std.proofs.Common.{◌+◌}
use Rattle.tcc_lanes.proofs.PassLemmas.{IsFarthest, covered_more, farthest_more}
use Rattle.tcc_lanes.proofs.passes.covered.Goals as goal

pub loop-place-preserved : goal.loop-place-preserved
loop-place-preserved c =
    let order = c.args.order.now in
    let lasts = c.args.lasts.now in
    let place = c.loop-place.place in
    let more : IsFarthest order lasts (place + 1) c.max-far.result = rw c.max-far.ensures (farthest_more order lasts place c.loop-place.far c.loop-place.invariant.far) in
    record {
      far = more;
      covered = rw c.in_ok-push.ensures.items (covered_more order lasts place c.max-far.result c.loop-place.covered.items more c.loop-place.invariant.covered);
    }
