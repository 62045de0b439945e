-- What keeps the small or the large limits keeps the large ones.
use Rattle.std.proofs.Common.{◌≤◌, arith}
use Rattle.tcc_txn.specs.Limits.{most_sessions, most_transactions}
use Rattle.tcc_txn.specs.declared.limits.Limits.{Limits}
use Rattle.tcc_txn.specs.declared.limits.Limits.TheVariants.{Small, Large}
use Rattle.tcc_txn.specs.declared.limits.TheConstants.{LARGE_SESSIONS, LARGE_TRANSACTIONS}

pub sessions_large : (limits : Limits) → most_sessions limits ≤ LARGE_SESSIONS
sessions_large Small = omega arith
sessions_large Large = omega arith

pub transactions_large : (limits : Limits) → most_transactions limits ≤ LARGE_TRANSACTIONS
transactions_large Small = omega arith
transactions_large Large = omega arith
