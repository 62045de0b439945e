-- Snapshots seen as ones within the small limits.
use Rattle.std.specs.Prelude.{◌≡◌}
use Rattle.tcc_txn.specs.Finished.{KeepsLimits}
use Rattle.tcc_txn.specs.Snapshots.{Sessions}
use Rattle.tcc_answering.specs.declared.answering.AsSmall.{AsSmall}
use Rattle.tcc_answering.specs.declared.answering.AsSmall.TheVariants as small

-- the same snapshot, within the small limits; or that it doesn't keep them
abbrev pub IsAsSmall : Sessions → AsSmall → Type 0
IsAsSmall s (small.Lent snapshot) = snapshot.now ≡ s
IsAsSmall s (small.Copied copy) = copy ≡ s
IsAsSmall s small.Past = KeepsLimits s → ⊥
