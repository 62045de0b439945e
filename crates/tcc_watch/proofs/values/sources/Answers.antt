use Rattle.tcc_watch.proofs.OperationLemmas.{sources_next}
use Rattle.tcc_watch.proofs.values.sources.Goals as goal

pub loop-index-preserved : goal.loop-index-preserved
loop-index-preserved c =
    sources_next c.args.values.now c.args.ops.now c.loop-index.index c.loop-index.reads.items c.add_source.new.reads.items c.loop-index.invariant c.loop-index-test.true
    c.index-ops-index.result c.index-ops-index.is (c.in_ok-add_source.ensures c.if-not-branch.false)
