-- The limits of an input: how many there may be of each.
use Rattle.std.specs.Prelude.{ℕ}
use Rattle.tcc_txn.specs.declared.limits.Limits.{Limits}
use Rattle.tcc_txn.specs.declared.limits.Limits.TheVariants.{Small, Large}
use Rattle.tcc_txn.specs.declared.limits.TheConstants.{MAX_SESSIONS, MAX_TRANSACTIONS, MAX_KEYS, MAX_SEALS, MAX_INPUT_BYTES}
use Rattle.tcc_txn.specs.declared.limits.TheConstants.{LARGE_SESSIONS, LARGE_TRANSACTIONS, LARGE_KEYS, LARGE_SEALS, LARGE_INPUT_BYTES}

-- one value for the small limits, and another for the large ones
abbrev pub most_of : ℕ → ℕ → Limits → ℕ
most_of small large Small = small
most_of small large Large = large

abbrev pub most_sessions : Limits → ℕ
most_sessions = most_of MAX_SESSIONS LARGE_SESSIONS

abbrev pub most_transactions : Limits → ℕ
most_transactions = most_of MAX_TRANSACTIONS LARGE_TRANSACTIONS

abbrev pub most_keys : Limits → ℕ
most_keys = most_of MAX_KEYS LARGE_KEYS

abbrev pub most_seals : Limits → ℕ
most_seals = most_of MAX_SEALS LARGE_SEALS

abbrev pub most_bytes : Limits → ℕ
most_bytes = most_of MAX_INPUT_BYTES LARGE_INPUT_BYTES
