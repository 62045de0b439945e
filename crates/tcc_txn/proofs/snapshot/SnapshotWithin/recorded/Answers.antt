use Rattle.std.proofs.Common.{ap, ◌∙◌, slice_get, List}
use Rattle.tcc_txn.specs.Snapshots.{listed_at}
use Rattle.tcc_txn.specs.private.Storing.{parts_in}
use Rattle.tcc_txn.proofs.StoredSnapshot.{Named, entries-parts}
use Rattle.tcc_txn.proofs.snapshot.SnapshotWithin.recorded.Goals as goal

pub returns : goal.returns
returns g c =
    c.recorded.ensures
    ∙ ap (λ (es : List Named). slice_get (listed_at es c.args.i) c.args.index)
    (entries-parts (parts_in c.self.inside.sessions) c.args.self.now c.self.invariant.stored c.self.view_is)
