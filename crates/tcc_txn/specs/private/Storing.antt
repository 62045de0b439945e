-- How the sessions of a snapshot are stored in memory, and that they keep its limits.
use Rattle.std.specs.Prelude.{ℕ, ◌≡◌, List, length, sum_by}
use Rattle.tcc_txn.specs.Transactions.{Transaction}
use Rattle.tcc_txn.specs.Snapshots.{parts_of}
use Rattle.tcc_txn.specs.private.SnapshotStorage.{IsStoredWithin}
use Rattle.tcc_txn.specs.declared.limits.Limits.{Limits}
use Rattle.tcc_txn.specs.declared.limits.Limits.TheVariants.{Small}
use Rattle.tcc_txn.specs.declared.storage.Storage.{Storage}
use Rattle.tcc_txn.specs.declared.storage.Storage.TheVariants.{Plain, Packed}

-- the parts, however they are stored
abbrev pub parts_in : Storage → List (List ℕ × List Transaction)
parts_in (Plain parts) = parts_of parts.items
parts_in (Packed parts) = parts

-- each session is stored in a vector of its transactions
abbrev pub IsPlain : Storage → Type 0
IsPlain (Plain parts) = Unit {0}
IsPlain (Packed parts) = ⊥

-- parts as they are stored, with the count of transactions; within the small limits they are plain
pub record IsCounted (limits : Limits) (sessions : Storage) (transactions : ℕ) : Type 0 where
  pub stored : IsStoredWithin limits (parts_in sessions)
  pub counted : transactions ≡ sum_by (λ part. length part.1) (parts_in sessions)
  pub plain : limits ≡ Small → IsPlain sessions
