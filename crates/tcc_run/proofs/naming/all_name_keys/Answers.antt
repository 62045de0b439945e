use Rattle.std.proofs.Common.{All, subst}
use Rattle.tcc_explain.specs.Keys.{NamesKey, NamesKeys}
use Rattle.tcc_run.proofs.SoFar.{all_next}
use Rattle.tcc_run.proofs.naming.all_name_keys.Goals as goal

pub loop-txn-preserved : goal.loop-txn-preserved
loop-txn-preserved c =
    all_next NamesKeys c.args.txns.now c.loop-txn.txn-index c.txn-item.result c.loop-txn-test.true c.txn-item.is c.loop-txn.invariant
    (subst (All NamesKey) c.ops.ensures.value c.names_keys.ensures)
