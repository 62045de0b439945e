use Rattle.std.proofs.Common.{ap, ◌∙◌, slice_get, List, option_map}
use Rattle.tcc_txn.specs.private.Storing.{parts_in}
use Rattle.tcc_txn.proofs.StoredSnapshot.{Named, entries-parts}
use Rattle.tcc_txn.proofs.snapshot.SnapshotWithin.name.Goals as goal

pub returns : goal.returns
returns g c =
    c.name.ensures
    ∙ ap (λ (es : List Named). option_map (λ (named : Named). named.0) (slice_get es c.args.i))
    (entries-parts (parts_in c.self.inside.sessions) c.args.self.now c.self.invariant.stored c.self.view_is)
