use Rattle.std.proofs.Common.{◌∙◌}
use Rattle.tcc_txn.specs.private.Storing.{parts_in}
use Rattle.tcc_txn.proofs.StoredSnapshot.{count-parts}
use Rattle.tcc_txn.proofs.snapshot.SnapshotWithin.transactions.Goals as goal

pub returns-clause-value : goal.returns-clause-value
returns-clause-value g c =
    c.self.invariant.counted ∙ count-parts (parts_in c.self.inside.sessions) c.args.self.now c.self.invariant.stored c.self.view_is
