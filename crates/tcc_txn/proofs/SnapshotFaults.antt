-- The faults of parts, as the code looks for them one by one.
use Rattle.std.proofs.Common.{◌≡◌, ℕ, ◌<◌, ◌≤◌, true, false, List, [], length, sum_by, refl, sym, arith, Option, None, Some, nat_lt}
use Rattle.std.proofs.lemmas.Bool.Decides.{nat_tests}
use Rattle.std.proofs.lemmas.Option.{none-some}
use Rattle.std.specs.Prelude.{if◌then◌else◌}
use Rattle.std.specs.Option.{option_map_or}
use Rattle.std.specs.Global.{Vec}
use Rattle.tcc_txn.specs.Transactions.{Transaction}
use Rattle.tcc_txn.specs.Limits.{most_sessions, most_transactions}
use Rattle.tcc_txn.specs.Snapshots.{first_repeated, parts_of, snapshot_fault_within}
use Rattle.tcc_txn.specs.declared.snapshot.SnapshotFault.{SnapshotFault}
use Rattle.tcc_txn.specs.declared.snapshot.SnapshotFault.TheVariants.{Repeated, TooManySessions, TooManyTransactions}
use Rattle.tcc_txn.proofs.Parts.{names_of, names_of-parts_of, length-parts_of, sum_by-parts_of}
use Rattle.tcc_txn.specs.declared.limits.Limits.{Limits}
use Rattle.tcc_txn.specs.declared.limits.Limits.TheVariants.{Small}
use Rattle.tcc_txn.specs.declared.limits.TheConstants.{MAX_SESSIONS, MAX_TRANSACTIONS}

-- the fault, by the repeated name, the number of sessions and the number of transactions
abbrev pub fault_by_within : Limits → Option (List ℕ) → ℕ → ℕ → Option SnapshotFault
fault_by_within limits repeated sessions transactions =
    option_map_or (λ name. Some (Repeated name)) repeated
    (if nat_lt (most_sessions limits) sessions then Some TooManySessions
    else if nat_lt (most_transactions limits) transactions then Some TooManyTransactions
    else None)

abbrev pub fault_by : Option (List ℕ) → ℕ → ℕ → Option SnapshotFault
fault_by = fault_by_within Small

-- without a fault no name is repeated, and the limits hold
pub record IsFaultless (limits : Limits) (repeated : Option (List ℕ)) (sessions transactions : ℕ) : Type 0 where
  pub distinct : repeated ≡ None
  pub few : sessions ≤ most_sessions limits
  pub short : transactions ≤ most_transactions limits

module _ (limits : Limits) where
  pub snapshot_fault-parts_of : (parts : List (List ℕ × Vec Transaction)) → snapshot_fault_within limits (parts_of parts)
      ≡ fault_by_within limits (first_repeated [] (names_of parts)) (length parts) (sum_by (λ part. length part.1.items) parts)
  snapshot_fault-parts_of parts =
      λ i. fault_by_within limits (first_repeated [] (names_of-parts_of parts i)) (length-parts_of parts i) (sum_by-parts_of parts i)

  pub sessions_fault : (sessions transactions : ℕ) → most_sessions limits < sessions → fault_by_within limits None sessions transactions ≡ Some TooManySessions
  sessions_fault sessions transactions many = grind (arith, nat_tests, many)

  pub transactions_fault : (sessions transactions : ℕ) → sessions ≤ most_sessions limits → nat_lt (most_transactions limits) transactions ≡ true
      → fault_by_within limits None sessions transactions ≡ Some TooManyTransactions
  transactions_fault sessions transactions few many = grind (arith, nat_tests, few, many)

  pub faultless_within : (sessions transactions : ℕ) → sessions ≤ most_sessions limits → nat_lt (most_transactions limits) transactions ≡ false
      → fault_by_within limits None sessions transactions ≡ None
  faultless_within sessions transactions few short = grind (arith, nat_tests, few, short)

  pub faultless : (repeated : Option (List ℕ)) (sessions transactions : ℕ) → fault_by_within limits repeated sessions transactions ≡ None
      → IsFaultless limits repeated sessions transactions
  faultless (Some name) sessions transactions none = absurd (none-some (Repeated name) (sym none))
  faultless None sessions transactions none = record {
    distinct = refl;
    few = grind (arith, nat_tests, none);
    short = grind (arith, nat_tests, none);
  }

pub no_fault : (sessions transactions : ℕ) → sessions ≤ MAX_SESSIONS → nat_lt MAX_TRANSACTIONS transactions ≡ false → fault_by None sessions transactions ≡ None
no_fault = faultless_within Small
