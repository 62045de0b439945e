use Rattle.tcc_watch.proofs.OperationLemmas.{noted_next}
use Rattle.tcc_watch.proofs.values.note_values.Goals as goal

pub loop-op-preserved : goal.loop-op-preserved
loop-op-preserved c =
    noted_next c.args.ops.now c.args.number c.loop-op.op-index c.op-item.result c.args.values.now c.loop-op.values c.note_value.new.values c.loop-op-test.true
    c.op-item.is c.loop-op.invariant c.in_ok-note_value.ensures
