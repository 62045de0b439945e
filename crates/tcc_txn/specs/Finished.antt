-- What the sessions have finished: one more transaction, and whether there are too many.
use Rattle.std.specs.Prelude.{ℕ, ◌≤◌, List, [], ◌∷◌, ◌++◌, length, sum_by, unwrap_or}
use Rattle.std.specs.FinMap as map
use Rattle.tcc_txn.specs.Limits.{most_sessions, most_transactions}
use Rattle.tcc_txn.specs.Snapshots.{Sessions}
use Rattle.tcc_txn.specs.Transactions.{Transaction}
use Rattle.tcc_txn.specs.declared.limits.Limits.{Limits}
use Rattle.tcc_txn.specs.declared.limits.Limits.TheVariants.{Small}

-- the session has one more transaction, its last
abbrev pub with_transaction : Sessions → List ℕ → Transaction → Sessions
with_transaction s session txn = map.insert s session (unwrap_or (map.get s session) [] ++ txn ∷ [])

-- how many transactions there are in all
abbrev pub transaction_count : Sessions → ℕ
transaction_count s = sum_by (λ named. length named.1) (map.entries s)

-- there are not too many sessions and not too many transactions
abbrev pub IsWithinLimits : Limits → Sessions → Type 0
IsWithinLimits limits s = (map.len s ≤ most_sessions limits) × (transaction_count s ≤ most_transactions limits)

-- there are not too many for the small limits
abbrev pub KeepsLimits : Sessions → Type 0
KeepsLimits s = IsWithinLimits Small s
