-- The records that a reader of `csv` has left. `Rows::new` says that at first they are those of the text.
use Rattle.std.specs.Prelude.{ℕ, ◌+◌, ◌≡◌, true, false, List, length, Option, Some, option_map}
use Rattle.csv.specs.Machine.{ends_at_end}
use Rattle.csv.specs.Reading.{Ready, default_config, has_failed, is_flexible, reader_config, reader_state, reader_trim, records_from, source_of}
use Rattle.csv.specs.Records.{fields_of}
use Rattle.csv.specs.declared.parser.State.{State}
use Rattle.csv.specs.declared.reader.Reader.{Reader}
use Rattle.csv.specs.declared.reader.Trim.TheVariants as trim
use Rattle.tcc_rows.specs.ByteLimit.{limited_remaining}
use Rattle.tcc_rows.specs.Lines.{Record}
use Rattle.tcc_rows.specs.declared.rows.records.Records.{Records}

-- a reader that gives each record as it is, of whatever length, and has not failed
pub record IsPlain {R : Type 0} (reader : Reader R) : Type 0 where
  pub ready : Ready reader
  pub config : reader_config reader ≡ default_config
  pub trim : reader_trim reader ≡ trim.None
  pub flexible : is_flexible reader ≡ true
  pub going : has_failed reader ≡ false

-- the records of a text from a state between two records
abbrev pub records_after : State → List ℕ → List Record
records_after state text = records_from default_config (length text + 1) state text

-- the records that the reader has left, if its bytes are known
pub record HasRecords {R : Type 0} (remaining : R → Option (List ℕ)) (reader : Reader R) (left : List Record) : Type 0 where
  pub plain : IsPlain reader
  pub between : ends_at_end (reader_state reader) ≡ false
  pub known : option_map (records_after (reader_state reader)) (source_of remaining reader) ≡ Some left

-- the records that are left within the limit on bytes
abbrev pub HasLeft : {R : Type 0} → (R → Option (List ℕ)) → Records R → List Record → Type 0
HasLeft remaining records left = HasRecords (limited_remaining remaining) records.reader left

-- the fields of the record that was read last
abbrev pub record_of : {R : Type 0} → Records R → Record
record_of records = fields_of records.record
