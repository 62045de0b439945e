use Rattle.std.proofs.Common.{◌∙◌}
use Rattle.tcc_txn.specs.private.Storing.{parts_in}
use Rattle.tcc_txn.proofs.StoredSnapshot.{len-parts, short-parts}
use Rattle.tcc_txn.proofs.snapshot.SnapshotWithin.sessions.Goals as goal

pub returns-clause-value : goal.returns-clause-value
returns-clause-value g c = c.len.ensures ∙ len-parts (parts_in c.self.inside.sessions) c.args.self.now c.self.invariant.stored c.self.view_is

pub returns-clause-few_transactions : goal.returns-clause-few_transactions
returns-clause-few_transactions g c = short-parts (parts_in c.self.inside.sessions) c.args.self.now c.self.invariant.stored c.self.view_is
