use Rattle.std.proofs.Common.{arith}
use Rattle.tcc_txn.specs.Snapshots.{finished_at}
use Rattle.tcc_txn.proofs.EqualLists.{same_lists}
use Rattle.tcc_txn.proofs.snapshot.are_same_lists.Goals as goal

pub returns-clause-same : goal.returns-clause-same
returns-clause-same g c _ =
    same_lists (finished_at c.args.one.now c.args.i) (finished_at c.args.other.now c.args.i)
    (omega (arith, c.finished.ensures.value, c.finished-2.ensures.value, c.if-finished.false))
    (λ k within. c.loop-index.invariant k (omega (arith, within, c.finished-index-end.ensures.value, c.loop-index-test.false)))
