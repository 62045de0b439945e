-- At which rows the operations of a session stand among the records.
use Rattle.std.specs.Prelude.{ℕ, ◌+◌, ◌-◌, ◌≡◌, Bool, false, ◌&&◌, if◌then◌else◌, List, [], ◌∷◌, ◌++◌, map, filter, slice_get, codes, Option, None, option_and_then, option_map}
use Rattle.std.specs.BTreeMap.{get}
use Rattle.std.specs.Cmp.Lexicographic.{slice_cmp}
use Rattle.std.specs.Option.{option_map_or}
use Rattle.std.specs.Ordering.{nat_cmp}
use Rattle.csv.specs.Reading.{AreRecords, default_config, strip_bom}
use Rattle.csv.specs.declared.parser.State.TheVariants.{StartRecord}
use Rattle.tcc_rows.specs.Lines.{Record}
use Rattle.tcc_txn.specs.Bytes.{same}
use Rattle.tcc_txn.specs.Names.{name_fault}
use Rattle.tcc_full.specs.declared.rows.OperationRow.{OperationRow}
use Rattle.tcc_full.specs.declared.rows.OperationRows.{OperationRows}

-- these are the records of a text: those of `csv` without a header row
abbrev pub AreRecordsOf : List ℕ → List Record → Type 0
AreRecordsOf text records = AreRecords default_config StartRecord (strip_bom text) records

-- this word of the session: a record of two fields, of which the first names it
abbrev pub is_word_of : List ℕ → List ℕ → Record → Bool
is_word_of name word (session ∷ said ∷ []) = same session name && same said word
is_word_of name word _ = false

-- a read or a write of the session: a record of four fields, of which the first names it
abbrev pub is_operation_of : List ℕ → Record → Bool
is_operation_of name (session ∷ word ∷ key ∷ value ∷ []) = same session name
is_operation_of name _ = false

-- a write among these
abbrev pub is_write : Record → Bool
is_write (session ∷ word ∷ rest) = same word (codes "w")
is_write _ = false

-- an operation at a row
abbrev pub operation_at : ℕ → Record → OperationRow
operation_at row fields = record { row = row; writes = is_write fields }

-- the operations of the transactions of a session, each with its row
abbrev pub Rows : Type 0
Rows = List (List OperationRow)

-- the last transaction has one operation more
abbrev pub add_last : OperationRow → Rows → Rows
add_last one [] = []
add_last one (transaction ∷ []) = (transaction ++ one ∷ []) ∷ []
add_last one (transaction ∷ next ∷ later) = transaction ∷ add_last one (next ∷ later)

-- of the last transaction the writes are left
abbrev pub keep_writes : Rows → Rows
keep_writes [] = []
keep_writes (transaction ∷ []) = filter (λ one. one.writes) transaction ∷ []
keep_writes (transaction ∷ next ∷ later) = transaction ∷ keep_writes (next ∷ later)

-- the operations of each of the session's transactions, after a record of this row; where nobody told how one ended, it counts with its writes
-- alone
abbrev pub after_record : List ℕ → ℕ → Record → Rows → Rows
after_record name row fields transactions =
    if is_word_of name (codes "begin") fields then transactions ++ [] ∷ []
    else if is_word_of name (codes "unknown") fields then keep_writes transactions
    else if is_operation_of name fields then add_last (operation_at row fields) transactions
    else transactions

-- after all of some records, of which the first has this row
abbrev pub after_records : List ℕ → ℕ → List Record → Rows → Rows
after_records name row [] transactions = transactions
after_records name row (fields ∷ rest) transactions = after_records name (row + 1) rest (after_record name row fields transactions)

-- the operations of each transaction that the session begins, in their order, with their rows; the first record has row 1
abbrev pub session_rows : List ℕ → List Record → Rows
session_rows name records = after_records name 1 records []

-- what a table has for the session
abbrev pub rows_in : OperationRows → List ℕ → Rows
rows_in table name = option_map_or (λ rows. map (λ transaction. transaction.items) rows.items) (get (slice_cmp nat_cmp) table.sessions name) []

-- the table has the rows of each session's operations in a text
abbrev pub HasRowsOf : List ℕ → OperationRows → Type 0
HasRowsOf text table =
    (records : List Record) × AreRecordsOf text records
    × ((name : List ℕ) → name_fault name ≡ None → rows_in table name ≡ session_rows name records)

-- the row of an operation of the session's transaction at a place, by its index from 0
abbrev pub row_of : OperationRows → List ℕ → ℕ → ℕ → Option ℕ
row_of table name place index =
    option_map (λ one. one.row) (option_and_then (λ rows. slice_get rows index) (slice_get (rows_in table name) (place - 1)))
