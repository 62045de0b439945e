use Rattle.std.proofs.Common.{arith}
use Rattle.tcc_txn.proofs.EqualLists.{same_lists}
use Rattle.tcc_txn.proofs.alike.are_same_ops.Goals as goal

pub returns-clause-same : goal.returns-clause-same
returns-clause-same c _ =
    same_lists c.args.one.now.ops c.args.other.now.ops (omega (arith, c.len.ensures.value, c.len-2.ensures.value, c.if-len.false))
    (λ k within. c.loop-index.invariant k (omega (arith, within, c.len-index-end.ensures.value, c.loop-index-test.false)))
