-- How the rows of operations are noted, record by record.
use Rattle.std.specs.Prelude.{ℕ, ◌+◌, ◌≡◌, Bool, false, if◌then◌else◌, List, [], ◌∷◌, length, Option, None, Some}
use Rattle.csv.specs.Reading.{Reached, default_config, reader_state, source_of, strip_bom}
use Rattle.csv.specs.declared.parser.State.TheVariants.{StartRecord}
use Rattle.csv.specs.declared.reader.Reader.{Reader}
use Rattle.tcc_rows.specs.Lines.{Record}
use Rattle.tcc_rows.specs.RecordsLeft.{IsPlain}
use Rattle.tcc_txn.specs.Bytes.{same}
use Rattle.tcc_txn.specs.Names.{name_fault}
use Rattle.tcc_full.specs.Rows.{Rows, after_record, rows_in, session_rows}
use Rattle.tcc_full.specs.declared.rows.OperationRows.{OperationRows}

-- this word of some session
abbrev pub is_word : List ℕ → Record → Bool
is_word word (session ∷ said ∷ []) = same said word
is_word word _ = false

-- the session, which has a name, has its rows changed so, and others have theirs
abbrev pub Changes : List ℕ → (Rows → Rows) → OperationRows → OperationRows → Type 0
Changes session change old new =
    (name : List ℕ) → name_fault name ≡ None → rows_in new name ≡ (if same session name then change (rows_in old name) else rows_in old name)

-- the record of this row is noted
abbrev pub NotesRecord : Record → ℕ → OperationRows → OperationRows → Type 0
NotesRecord fields row old new =
    (name : List ℕ) → name_fault name ≡ None → rows_in new name ≡ after_record name row fields (rows_in old name)

-- the table has the numbers of a text's records before this row
pub record IsNoted {R : Type 0} (remaining : R → Option (List ℕ)) (text : List ℕ) (reader : Reader R) (row : ℕ) (table : OperationRows) : Type 0 where
  pub first : List Record
  pub rest : List ℕ
  pub plain : IsPlain reader
  pub reached : Reached default_config StartRecord (strip_bom text) first (reader_state reader) rest
  pub known : source_of remaining reader ≡ Some rest
  pub counted : row ≡ length first + 1
  pub noted : (name : List ℕ) → name_fault name ≡ None → rows_in table name ≡ session_rows name first
