-- The answers that a reader of rows has still to give.
use Rattle.std.specs.Prelude.{ℕ, ◌+◌, ◌≡◌, ◌⊎◌, Bool, true, false, List, length, Option, None, Some, Result, Ok, Err}
use Rattle.tcc_rows.specs.Answers.{Answers, after_item, answers_after_within, ending}
use Rattle.tcc_rows.specs.Lines.{Record}
use Rattle.tcc_txn.specs.declared.limits.Limits.{Limits}
use Rattle.tcc_rows.specs.declared.rows.Item.{Item}
use Rattle.tcc_rows.specs.declared.rows.Item.TheVariants as item
use Rattle.tcc_rows.specs.declared.rows.RowsStage.{RowsStage}
use Rattle.tcc_rows.specs.declared.rows.RowsStage.TheVariants as stage
use Rattle.tcc_rows.specs.declared.fault.RowFault.{RowFault}
use Rattle.tcc_rows.specs.declared.fault.RowFaultKind.{RowFaultKind}
use Rattle.tcc_rows.specs.declared.fault.RowFaultKind.TheVariants as kind
use Rattle.tcc_rows.specs.Midway.{IsMidway}
use Rattle.tcc_rows.specs.declared.rows.Rows.{Rows}
use Rattle.tcc_rows.specs.Line.{Line}

-- the stage after an item
abbrev pub stage_after : Item → RowsStage
stage_after item.End = stage.Ended
stage_after item.Seal = stage.Reading
stage_after (item.Finished name txn) = stage.Reading
stage_after (item.Unknown name txn) = stage.Reading

abbrev pub IsAheadIn : {R : Type 0} → Limits → RowsStage → (R → Option (List ℕ)) → Rows R → Answers → Type 0
IsAheadIn limits stage.Reading remaining rows ahead = IsMidway limits remaining rows ahead
IsAheadIn limits stage.Ended remaining rows ahead = ahead ≡ ending None
IsAheadIn limits (stage.Stopped fault) remaining rows ahead = ahead ≡ ending (Some fault)

-- these are the answers that are still to come, if the reader's bytes are known
abbrev pub IsAhead : {R : Type 0} → Limits → (R → Option (List ℕ)) → Rows R → Answers → Type 0
IsAhead limits remaining rows ahead = IsAheadIn limits rows.stage remaining rows ahead

-- the fault that was reached, if there was one
abbrev pub fault_in : RowsStage → Option RowFault
fault_in stage.Reading = None
fault_in stage.Ended = None
fault_in (stage.Stopped fault) = Some fault

abbrev pub fault_met : {R : Type 0} → Rows R → Option RowFault
fault_met rows = fault_in rows.stage

-- the end was reached
abbrev pub ended_in : RowsStage → Bool
ended_in stage.Reading = false
ended_in stage.Ended = true
ended_in (stage.Stopped fault) = false

abbrev pub has_ended : {R : Type 0} → Rows R → Bool
has_ended rows = ended_in rows.stage

-- the fault when a reader fails, or when memory is refused
abbrev pub IsFailure : RowFaultKind → Type 0
IsFailure k = (k ≡ kind.Read) ⊎ (k ≡ kind.NoMemory)

-- the reader failed or memory was refused, at the record that follows some lawful lines after which the same answers are still to come
abbrev pub FailsIn : Limits → Answers → RowFault → Type 0
FailsIn limits ahead fault =
    IsFailure fault.kind × (past : List Line) × (left : List Record) × (ahead ≡ answers_after_within limits past left) × (fault.row ≡ length past + 1)

-- the first answer is this fault, unless the reader failed or memory was refused
abbrev pub FaultsIn : Limits → Answers → RowFault → Type 0
FaultsIn limits ahead fault = (ahead ≡ ending (Some fault)) ⊎ FailsIn limits ahead fault

-- the first of the answers that were to come was given, and the others are still to come
abbrev pub TakesAnswer : {R : Type 0} → Limits → (R → Option (List ℕ)) → Answers → Result Item RowFault → Rows R → Type 0
TakesAnswer limits remaining ahead (Ok item.End) new = (ahead ≡ ending None) × IsAhead limits remaining new (ending None)
TakesAnswer limits remaining ahead (Ok item.Seal) new = (rest : Answers) × (ahead ≡ after_item (Some item.Seal) rest) × IsAhead limits remaining new rest
TakesAnswer limits remaining ahead (Ok (item.Finished name txn)) new =
    (rest : Answers) × (ahead ≡ after_item (Some (item.Finished name txn)) rest) × IsAhead limits remaining new rest
TakesAnswer limits remaining ahead (Ok (item.Unknown name txn)) new =
    (rest : Answers) × (ahead ≡ after_item (Some (item.Unknown name txn)) rest) × IsAhead limits remaining new rest
TakesAnswer limits remaining ahead (Err fault) new = FaultsIn limits ahead fault × IsAhead limits remaining new (ending (Some fault))
