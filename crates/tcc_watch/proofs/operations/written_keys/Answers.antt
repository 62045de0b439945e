use Rattle.tcc_watch.proofs.OperationLemmas.{keys_next}
use Rattle.tcc_watch.proofs.operations.written_keys.Goals as goal

pub loop-op-preserved : goal.loop-op-preserved
loop-op-preserved c =
    keys_next c.args.ops.now c.loop-op.op-index c.op-item.result c.loop-op.keys.items c.add_written.new.keys.items c.loop-op-test.true c.op-item.is
    c.loop-op.invariant c.in_ok-add_written.ensures
