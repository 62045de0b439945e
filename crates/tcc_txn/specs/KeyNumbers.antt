-- The keys of a snapshot's operations, each by a number.
use Rattle.std.specs.Prelude.{ℕ, ◌<◌, ◌≡◌, List, [], map, flat_map, length, slice_index_or, All}
use Rattle.tcc_txn.specs.Transactions.{Transaction, op_key}

-- the keys of the operations of some transactions, in order
abbrev pub keys_of : List Transaction → List (List ℕ)
keys_of txns = flat_map (λ txn. map op_key txn.ops) txns

-- the keys of the operations of some sessions, in order
abbrev pub keys_in : List (List ℕ × List Transaction) → List (List ℕ)
keys_in sessions = flat_map (λ named. keys_of named.1) sessions

-- the name at a number
abbrev pub name_at : List (List ℕ) → ℕ → List ℕ
name_at names n = slice_index_or names n []

-- the keys have these numbers among these names
pub record AreNumbers (names : List (List ℕ)) (numbers : List ℕ) (keys : List (List ℕ)) : Type 0 where
  pub within : All (λ n. n < length names) numbers
  pub named : map (name_at names) numbers ≡ keys
