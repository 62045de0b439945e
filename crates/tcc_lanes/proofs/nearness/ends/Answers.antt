use Rattle.tcc_lanes.proofs.NearnessLemmas.{ends_more, ends_none}
use Rattle.tcc_lanes.proofs.nearness.ends.Goals as goal

pub loop-last-init : goal.loop-last-init
loop-last-init c = rw c.new-marks.ensures.items (ends_none c.args.lasts.now)

pub loop-last-preserved : goal.loop-last-preserved
loop-last-preserved c =
    rw c.in_ok-push.ensures.items
    (ends_more c.args.lasts.now c.loop-last.marks.items c.loop-last.last-index c.end_word.result c.end_word.ensures c.loop-last.invariant)
