use Rattle.std.proofs.Common.{ap, sym, ◌∙◌}
use Rattle.tcc_txn.specs.Snapshots.{parts_of}
use Rattle.tcc_txn.specs.private.Storing.{parts_in}
use Rattle.tcc_txn.proofs.StoredSnapshot.{entries-parts, short-parts}
use Rattle.tcc_txn.proofs.snapshot.SnapshotWithin+SmallLimits.plain.Goals as goal

pub returns-clause-value : goal.returns-clause-value
returns-clause-value c =
    ap parts_of c.deref.ensures.value
    ∙ (sym (ap parts_in c.in-Plain.is) ∙ entries-parts (parts_in c.self.inside.sessions) c.args.self.now c.self.invariant.stored c.self.view_is)

pub returns-clause-few_transactions : goal.returns-clause-few_transactions
returns-clause-few_transactions c = short-parts (parts_in c.self.inside.sessions) c.args.self.now c.self.invariant.stored c.self.view_is
