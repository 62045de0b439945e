-- Snapshots: what the sessions had finished at one moment.
use Rattle.std.specs.Prelude.{ℕ, nat_lt, nat_eq, if◌then◌else◌, List, [], ◌∷◌, ◌++◌, map, length, slice_get, sum_by, Option, None, Some}
use Rattle.std.specs.List.{list_any}
use Rattle.std.specs.Option.{option_map_or}
use Rattle.std.specs.Ordering.{nat_cmp}
use Rattle.std.specs.Cmp.Lexicographic.{slice_cmp, pointwise}
use Rattle.std.specs.FinMap.{FinMap, entries}
use Rattle.std.specs.Global.{Vec}
use Rattle.tcc_txn.specs.Limits.{most_sessions, most_transactions}
use Rattle.tcc_txn.specs.Transactions.{Transaction}
use Rattle.tcc_txn.specs.declared.limits.Limits.{Limits}
use Rattle.tcc_txn.specs.declared.limits.Limits.TheVariants.{Small}
use Rattle.tcc_txn.specs.declared.snapshot.SnapshotFault.{SnapshotFault}
use Rattle.tcc_txn.specs.declared.snapshot.SnapshotFault.TheVariants.{Repeated, TooManySessions, TooManyTransactions}

-- a finite map from the names of sessions to their finished transactions, in byte order of the names
abbrev pub Sessions : Type 0
Sessions = FinMap (slice_cmp nat_cmp) (List Transaction)

-- the sessions' names with their transactions, without the memory that holds these
abbrev pub parts_of : List (List ℕ × Vec Transaction) → List (List ℕ × List Transaction)
parts_of parts = map (λ part. (part.0, part.1.items)) parts

-- the first of the later names that equals one before it
abbrev pub first_repeated : List (List ℕ) → List (List ℕ) → Option (List ℕ)
first_repeated earlier [] = None
first_repeated earlier (name ∷ later) =
    if list_any (pointwise nat_eq name) earlier then Some name else first_repeated (earlier ++ name ∷ []) later

-- why the parts make no snapshot that keeps the limits: two have one name, or there are too many sessions or too many
-- transactions
abbrev pub snapshot_fault_within : Limits → List (List ℕ × List Transaction) → Option SnapshotFault
snapshot_fault_within limits parts =
    option_map_or (λ name. Some (Repeated name)) (first_repeated [] (map (λ part. part.0) parts))
    (if nat_lt (most_sessions limits) (length parts) then Some TooManySessions
    else if nat_lt (most_transactions limits) (sum_by (λ part. length part.1) parts) then Some TooManyTransactions
    else None)

-- why they make no small snapshot
abbrev pub snapshot_fault : List (List ℕ × List Transaction) → Option SnapshotFault
snapshot_fault = snapshot_fault_within Small

-- the transactions of the part at an index; none past the last part
abbrev pub listed_at : List (List ℕ × List Transaction) → ℕ → List Transaction
listed_at parts i = option_map_or (λ named. named.1) (slice_get parts i) []

-- the transactions of the session at an index in byte order of the names; none past the last session
abbrev pub finished_at : Sessions → ℕ → List Transaction
finished_at s i = listed_at (entries s) i
