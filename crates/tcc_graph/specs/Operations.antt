-- The recorded operations of a transaction, and what is among them.
use Rattle.std.specs.Prelude.{ℕ, ◌+◌, ◌-◌, Bool, false, ◌&&◌, ◌==◌, if◌then◌else◌, List, [], ◌∷◌, unwrap_or, slice_get, Option, None, Some}
use Rattle.std.specs.Option.{option_map_or, option_or}
use Rattle.std.specs.Str.{bytes_eq}
use Rattle.tcc_txn.specs.Snapshots.{Sessions, finished_at}
use Rattle.tcc_txn.specs.Transactions.{Transaction}
use Rattle.tcc_txn.specs.declared.op.Op.{Op}
use Rattle.tcc_txn.specs.declared.op.Op.TheVariants.{Get, Put}
use Rattle.tcc_reads.specs.History.{History}
use Rattle.tcc_reads.specs.Sources.{puts_at, visible_write}
use Rattle.tcc_graph.specs.Numbers.{at}

-- the operations of the transaction at this place of its session
abbrev pub ops_in : List Transaction → ℕ → List Op
ops_in transactions place = option_map_or (λ t. t.ops) (slice_get transactions (place - 1)) []

-- the recorded operations of the transaction of a number; none for `init`
abbrev pub ops_of : Sessions → History → ℕ → List Op
ops_of s h n = option_map_or (λ p. ops_in (finished_at s p.0) p.1) (at h n) []

-- the index of the last write of a key, if the first operation has this index
abbrev pub last_write_from : ℕ → List ℕ → List Op → Option ℕ
last_write_from index x [] = None
last_write_from index x (op ∷ later) = option_or (last_write_from (index + 1) x later) (if puts_at x op then Some index else None)

-- the index of the last write of a key, which others see
abbrev pub last_write : List ℕ → List Op → Option ℕ
last_write x ops = last_write_from 0 x ops

-- the value at a key that is read from a transaction: 0 from `init`, else its visible write
abbrev pub source_value : Sessions → History → ℕ → List ℕ → ℕ
source_value s h n x = unwrap_or (visible_write x (ops_of s h n)) 0

-- whether an operation reads this value at a key
abbrev pub reads_value : List ℕ → ℕ → Op → Bool
reads_value x v (Get key value) = bytes_eq key x && (value == v)
reads_value x v (Put key value) = false

-- the index of the first operation that reads this value at a key, if the first of all has this index
abbrev pub first_reading_from : ℕ → List ℕ → ℕ → List Op → Option ℕ
first_reading_from index x v [] = None
first_reading_from index x v (op ∷ later) = if reads_value x v op then Some index else first_reading_from (index + 1) x v later

-- the index of the first operation that reads this value at a key
abbrev pub first_reading : List ℕ → ℕ → List Op → Option ℕ
first_reading x v ops = first_reading_from 0 x v ops
