-- The recorded operations that an answer speaks of, with their rows.
use Rattle.std.specs.Prelude.{ℕ, List, slice_get, Option, option_and_then}
use Rattle.tcc_txn.specs.Snapshots.{Sessions}
use Rattle.tcc_reads.specs.History.{History}
use Rattle.tcc_graph.specs.Numbers.{at}
use Rattle.tcc_graph.specs.Operations.{first_reading, last_write, ops_of, source_value}
use Rattle.tcc_full.specs.Rows.{row_of}
use Rattle.tcc_full.specs.declared.lookup.Lookup.{Lookup}
use Rattle.tcc_full.specs.declared.rows.OperationRows.{OperationRows}

-- a snapshot, its history, the names of its transactions, and the rows of all operations
pub record Records : Type 0 where
  pub snapshot : Sessions
  pub history : History
  pub labels : List (List ℕ)
  pub rows : OperationRows

abbrev pub records_of : {B : Type 0} → Lookup B → Records
records_of r = record { snapshot = r.snapshot.now; history = r.graph.now; labels = r.labels.now; rows = r.rows.now }

-- the row of an operation of the transaction of a number, by its index from 0
abbrev pub row_at : Records → ℕ → ℕ → Option ℕ
row_at r n index = option_and_then (λ p. option_and_then (λ name. row_of r.rows name p.1 index) (slice_get r.history.sessions p.0)) (at r.history n)

-- the row of a transaction's last write of a key, which others see; none for `init`
abbrev pub write_row : Records → ℕ → List ℕ → Option ℕ
write_row r n x = option_and_then (row_at r n) (last_write x (ops_of r.snapshot r.history n))

-- the value at a key that is read from a transaction: 0 from `init`, else its visible write
abbrev pub value_from : Records → ℕ → List ℕ → ℕ
value_from r n x = source_value r.snapshot r.history n x

-- the row of a transaction's first read of a key that reads from this source
abbrev pub read_row : Records → ℕ → ℕ → List ℕ → Option ℕ
read_row r source reader x =
    option_and_then (row_at r reader) (first_reading x (value_from r source x) (ops_of r.snapshot r.history reader))
