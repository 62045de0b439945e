use Rattle.std.proofs.Common.{ap, ◌∙◌, length, List, arith}
use Rattle.tcc_txn.specs.Snapshots.{listed_at}
use Rattle.tcc_txn.specs.private.Storing.{parts_in}
use Rattle.tcc_txn.proofs.StoredSnapshot.{Named, entries-parts, few-finished}
use Rattle.tcc_txn.proofs.snapshot.SnapshotWithin.finished.Goals as goal

pub returns-clause-value : goal.returns-clause-value
returns-clause-value g c =
    c.finished.ensures
    ∙ ap (λ (es : List Named). length (listed_at es c.args.i))
    (entries-parts (parts_in c.self.inside.sessions) c.args.self.now c.self.invariant.stored c.self.view_is)

pub returns-clause-few : goal.returns-clause-few
returns-clause-few g c =
    omega (
      arith,
      returns-clause-value g c,
      few-finished (parts_in c.self.inside.sessions) c.args.self.now c.self.invariant.stored c.self.view_is c.args.i,
    )
