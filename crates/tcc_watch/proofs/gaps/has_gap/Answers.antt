use Rattle.tcc_watch.proofs.GapLemmas.{one_gap}
use Rattle.tcc_watch.proofs.gaps.has_gap.Goals as goal

pub returns-then-is_gap : goal.returns-then-is_gap
returns-then-is_gap c is =
    one_gap c.args.lines.now c.args.values.now c.args.ops.now c.loop-index.index c.index-ops-index.result c.loop-index-test.true c.index-ops-index.is
    (c.is_gap.ensures c.if-is_gap.true)
