use Rattle.tcc_explain.specs.Keys.{NamesKey}
use Rattle.tcc_run.proofs.SoFar.{all_next}
use Rattle.tcc_run.proofs.naming.names_keys.Goals as goal

pub loop-op-preserved : goal.loop-op-preserved
loop-op-preserved c =
    all_next NamesKey c.args.ops.now c.loop-op.op-index c.op-item.result c.loop-op-test.true c.op-item.is c.loop-op.invariant c.names_key.ensures
