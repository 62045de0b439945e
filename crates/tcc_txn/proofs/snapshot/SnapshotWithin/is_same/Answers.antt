use Rattle.std.proofs.Common.{arith}
use Rattle.std.specs.FinMap.{entries, len-entries, same_entries_map}
use Rattle.tcc_txn.proofs.EqualLists.{same_lists}
use Rattle.tcc_txn.proofs.snapshot.SnapshotWithin.is_same.Goals as goal

pub returns-clause-same : goal.returns-clause-same
returns-clause-same g c _ =
    let some = c.args.self.now in
    let others = c.args.other.now in
    same_entries_map some others
    (same_lists (entries some) (entries others)
    (omega (arith, c.sessions.ensures.value, c.sessions-2.ensures.value, c.if-sessions.false, len-entries some, len-entries others))
    (λ k within. c.loop-i.invariant k (omega (arith, within, c.sessions-i-end.ensures.value, c.loop-i-test.false, len-entries some))))
