use Rattle.std.proofs.Common.{List, subst}
use Rattle.std.specs.Prelude.{IfOk}
use Rattle.tcc_txn.specs.KeyNumbers.{AreNumbers, keys_in}
use Rattle.tcc_txn.specs.declared.key_numbers.KeyNumbers.{KeyNumbers}
use Rattle.tcc_txn.specs.private.Storing.{parts_in}
use Rattle.tcc_txn.proofs.StoredSnapshot.{Named, entries-parts}
use Rattle.tcc_txn.proofs.snapshot.SnapshotWithin.key_numbers.Goals as goal

pub returns : goal.returns
returns g c =
    subst (λ (es : List Named). IfOk c.key_numbers.result (λ (keys : KeyNumbers). AreNumbers keys.names.items keys.numbers.items (keys_in es)))
    (entries-parts (parts_in c.self.inside.sessions) c.args.self.now c.self.invariant.stored c.self.view_is) c.key_numbers.ensures
