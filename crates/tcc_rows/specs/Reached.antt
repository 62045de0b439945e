-- How far a reader of rows has come: how many records it has read, which of a text these are, and whether the reading failed.
use Rattle.std.specs.Prelude.{ℕ, ◌+◌, ◌-◌, ◌^◌, ◌≡◌, ◌<◌, ◌≤◌, ◌⊎◌, Bool, true, false, min, List, [], ◌++◌, get_or, length, Option}
use Rattle.csv.specs.Reading.{has_failed}
use Rattle.tcc_rows.specs.Lines.{Record}
use Rattle.tcc_rows.specs.RecordsLeft.{HasLeft, record_of}
use Rattle.tcc_rows.specs.declared.fault.RowFaultKind.{RowFaultKind}
use Rattle.tcc_rows.specs.declared.fault.RowFaultKind.TheVariants as kind
use Rattle.tcc_rows.specs.declared.rows.RowsStage.{RowsStage}
use Rattle.tcc_rows.specs.declared.rows.RowsStage.TheVariants as stage
use Rattle.tcc_rows.specs.declared.rows.Rows.{Rows}
use Rattle.tcc_rows.specs.declared.rows.records.RecordsStage.{RecordsStage}
use Rattle.tcc_rows.specs.declared.rows.records.RecordsStage.TheVariants as records_stage
use Rattle.tcc_rows.specs.declared.rows.records.Records.{Records}

-- the fields of the record that was read last
abbrev pub last_record : {R : Type 0} → Rows R → Record
last_record rows = record_of rows.records

-- the record at a row, counted from 1; of no fields where there is none
abbrev pub record_at : ℕ → List Record → Record
record_at row all = get_or all (row - 1) []

-- a fault of this kind is one of a record that was read: not of the reader, of memory or of the end of the input
abbrev pub is_of_record : RowFaultKind → Bool
is_of_record kind.Read = false
is_of_record kind.NoMemory = false
is_of_record (kind.Unfinished session) = false
is_of_record _ = true

-- after this many records: the row of the last; if the reading of one more failed, the row after it, as far as 64 bits go
abbrev pub row_in : RecordsStage → ℕ → ℕ
row_in records_stage.Going count = count
row_in records_stage.Ended count = count
row_in records_stage.Failed count = min (count + 1) (2 ^ 64 - 1)

-- the row at which a fault is
abbrev pub row_reached : {R : Type 0} → Rows R → ℕ
row_reached rows = row_in rows.records.stage rows.records.count

-- `csv` has given up: its reader or memory failed; or there are as many records as 64 bits count
abbrev pub HasGivenUp : {R : Type 0} → Records R → Type 0
HasGivenUp records = (has_failed records.reader ≡ true) ⊎ (records.count ≡ 2 ^ 64 - 1)

abbrev pub ReaderFailed : {R : Type 0} → Rows R → Type 0
ReaderFailed rows = HasGivenUp rows.records

-- the records of a text that were read, the last of them, and those that are left
pub record StandsIn {R : Type 0} (remaining : R → Option (List ℕ)) (records : Records R) (all : List Record) : Type 0 where
  pub first : List Record
  pub left : List Record
  pub whole : all ≡ first ++ left
  pub counted : records.count ≡ length first
  pub rest : HasLeft remaining records left
  pub last : 0 < records.count → record_of records ≡ record_at records.count all
  pub going : records.stage ≡ records_stage.Going

abbrev pub StandsBy : {R : Type 0} → RowsStage → (R → Option (List ℕ)) → Records R → List Record → Type 0
StandsBy stage.Reading remaining records all = StandsIn remaining records all
StandsBy stage.Ended remaining records all = records.count ≡ length all
StandsBy (stage.Stopped fault) remaining records all = records.count ≤ length all

-- the records of a text are read in turn: the first ones were read, and at the end all
abbrev pub IsWithin : {R : Type 0} → (R → Option (List ℕ)) → Rows R → List Record → Type 0
IsWithin remaining rows all = StandsBy rows.stage remaining rows.records all
