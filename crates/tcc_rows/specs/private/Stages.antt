-- The private stages of a reader of rows.
use Rattle.std.specs.Prelude.{ℕ, ◌+◌, ◌^◌, ◌<◌, ◌≤◌, ◌≡◌, ◌⊎◌, Bool, true, false, List, [], ◌∷◌, length, Option, None, Some, Result, Ok, Err}
use Rattle.tcc_rows.specs.Ahead.{FaultsIn}
use Rattle.tcc_rows.specs.Midway.{IsMidway}
use Rattle.tcc_rows.specs.Answers.{Answers, after_item, answers_after_within, ending, judged_within}
use Rattle.tcc_rows.specs.Lines.{Record, is_cut, line_of}
use Rattle.tcc_rows.specs.Past.{item_of}
use Rattle.tcc_rows.specs.Reached.{StandsIn, is_of_record, record_at, row_in, row_reached}
use Rattle.tcc_rows.specs.RecordsLeft.{HasLeft, record_of}
use Rattle.tcc_rows.specs.SessionStates.{IsAfter}
use Rattle.tcc_txn.specs.declared.limits.Limits.{Limits}
use Rattle.tcc_rows.specs.declared.rows.Item.{Item}
use Rattle.tcc_rows.specs.declared.rows.Item.TheVariants as item
use Rattle.tcc_rows.specs.declared.fault.RowFault.{RowFault}
use Rattle.tcc_rows.specs.declared.fault.RowFaultKind.{RowFaultKind}
use Rattle.tcc_rows.specs.declared.fault.RowFaultKind.TheVariants as kind
use Rattle.tcc_rows.specs.declared.rows.Rows.{Rows}
use Rattle.tcc_rows.specs.Line.{Line}
use Rattle.tcc_rows.specs.private.ControlRecords.{line_by}
use Rattle.tcc_rows.specs.declared.rows.line.ControlRecord.{ControlRecord}
use Rattle.tcc_rows.specs.declared.rows.records.RecordsStage.TheVariants as records_stage
use Rattle.tcc_rows.specs.declared.rows.records.Records.{Records}

-- a record was read, the first of those that were left, or there was none
abbrev pub TakesRecord : {R : Type 0} → (R → Option (List ℕ)) → List Record → Bool → Records R → Type 0
TakesRecord remaining left true new = (rest : List Record) × (left ≡ record_of new ∷ rest) × HasLeft remaining new rest
TakesRecord remaining left false new = left ≡ []

-- one more record is counted if one was read
abbrev pub Counts : {R : Type 0} {E : Type 0} → Records R → Result Bool E → Records R → Type 0
Counts old (Ok true) new = (new.count ≡ old.count + 1) × (new.count < 2 ^ 64) × (new.stage ≡ old.stage)
Counts old (Ok false) new = (new.count ≡ old.count) × (new.stage ≡ records_stage.Ended)
Counts old (Err e) new = (new.count ≡ old.count) × (new.stage ≡ records_stage.Failed)

-- one more record of a text was read, or there was none, or the reading failed
abbrev pub ReadsIn : {R : Type 0} {E : Type 0} → (R → Option (List ℕ)) → List Record → Result Bool E → Records R → Type 0
ReadsIn remaining all (Ok true) new = StandsIn remaining new all
ReadsIn remaining all (Ok false) new = new.count ≡ length all
ReadsIn remaining all (Err e) new = new.count ≤ length all

-- no more records of a text were read than it has; where a fault of this kind is one of a record, the one at the row was read last
abbrev pub StopsIn : {R : Type 0} → RowFaultKind → List Record → Records R → Type 0
StopsIn k all new = (new.count ≤ length all) × (is_of_record k ≡ true → record_of new ≡ record_at (row_in new.stage new.count) all)

-- the result for the line that is reached
abbrev pub LeavesIn : {R : Type 0} → (R → Option (List ℕ)) → List Record → Result (Option ControlRecord) RowFaultKind → Records R → Type 0
LeavesIn remaining all (Ok (Some turn)) new = StandsIn remaining new all
LeavesIn remaining all (Ok None) new = new.count ≡ length all
LeavesIn remaining all (Err k) new = StopsIn k all new

abbrev pub TakesItem : {R : Type 0} → Limits → (R → Option (List ℕ)) → Answers → Item → Rows R → Type 0
TakesItem limits remaining ahead item.End new = ahead ≡ ending None
TakesItem limits remaining ahead item.Seal new = (rest : Answers) × (ahead ≡ after_item (Some item.Seal) rest) × IsMidway limits remaining new rest
TakesItem limits remaining ahead (item.Finished name txn) new =
    (rest : Answers) × (ahead ≡ after_item (Some (item.Finished name txn)) rest) × IsMidway limits remaining new rest
TakesItem limits remaining ahead (item.Unknown name txn) new =
    (rest : Answers) × (ahead ≡ after_item (Some (item.Unknown name txn)) rest) × IsMidway limits remaining new rest

-- one record was passed, or the end was reached: the result
abbrev pub TakesLine : {R : Type 0} → Limits → (R → Option (List ℕ)) → Answers → Result (Option Item) RowFault → Rows R → Type 0
TakesLine limits remaining ahead (Ok None) new = IsMidway limits remaining new ahead
TakesLine limits remaining ahead (Ok (Some given)) new = TakesItem limits remaining ahead given new
TakesLine limits remaining ahead (Err fault) new = FaultsIn limits ahead fault

-- the line of the record that was read last, the first of those that are left: these are the answers from there on, after the
-- lawful lines so far
pub record IsAtLine {R : Type 0} (limits : Limits) (remaining : R → Option (List ℕ)) (rows : Rows R) (ahead : Answers) (line : Line) : Type 0 where
  pub past : List Line
  pub fields : Record
  pub left : List Record
  pub records : HasLeft remaining rows.records left
  pub progress : IsAfter limits past rows.progress
  pub counted : rows.records.count ≡ length past + 1
  pub going : rows.records.stage ≡ records_stage.Going
  pub fits : length past + length left + 2 < 2 ^ 64
  pub whole : is_cut fields ≡ false
  pub lawful : line_of fields ≡ Ok line
  pub answers : ahead ≡ answers_after_within limits past (fields ∷ left)

-- the operations before it were passed: a line is reached, or the end of the records, or a fault in place of the first answer
abbrev pub MeetsLine : {R : Type 0} → Limits → (R → Option (List ℕ)) → Answers → Result (Option ControlRecord) RowFaultKind → Rows R → Type 0
MeetsLine limits remaining ahead (Ok (Some turn)) new = IsAtLine limits remaining new ahead (line_by turn)
MeetsLine limits remaining ahead (Ok None) new =
    (past : List Line) × IsAfter limits past new.progress × (row_reached new ≡ length past) × (ahead ≡ answers_after_within limits past [])
MeetsLine limits remaining ahead (Err k) new = FaultsIn limits ahead (record { row = row_reached new; kind = k })

-- the record after lawful lines: the item of its line, or the fault of the record unless memory was refused
abbrev pub TakesFields : {R : Type 0} → Limits → List Line → Record → Result (Option Item) RowFault → Rows R → Type 0
TakesFields limits past fields (Ok given) new =
    (last : Line) × (judged_within limits past fields ≡ Ok last) × (given ≡ item_of past last) × IsAfter limits (last ∷ past) new.progress
TakesFields limits past fields (Err fault) new =
    ((judged_within limits past fields ≡ Err fault.kind) ⊎ (fault.kind ≡ kind.NoMemory)) × (fault.row ≡ length past + 1)
