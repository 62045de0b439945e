-- What a reader of parts is still to give.
use Rattle.std.specs.Prelude.{ℕ, Bool, true, false, List, Option, None, Some, Result, Ok, Err, ◌+◌, ◌≡◌}
use Rattle.tcc_cert.specs.declared.fault.CertFault.{CertFault}
use Rattle.tcc_cert.specs.declared.part.Part.{Part}
use Rattle.tcc_cert.specs.declared.part.Part.TheVariants as part
use Rattle.tcc_cert.specs.declared.reading.parts.CertReader.{CertReader}
use Rattle.tcc_cert.specs.declared.reading.stages.ReadingStage.{ReadingStage}
use Rattle.tcc_cert.specs.declared.reading.stages.ReadingStage.TheVariants as stage
use Rattle.tcc_cert.specs.declared.reading.stages.ExpectedPart.TheVariants as coming
use Rattle.tcc_cert.specs.InputBytes.{HasFailed, IsAt}
use Rattle.tcc_cert.specs.Parts.{Parts, FaultsIn, IsFirst, stopped, ending, link_rows, whole_parts}
use Rattle.tcc_cert.specs.Reading.{Position}
use Rattle.tcc_cert.specs.Shapes.{height, links_from, rows_from, table_parts, table_rows}
use Rattle.tcc_cert.specs.declared.reading.input.Input.{Input}
use Rattle.tcc_cert.specs.declared.reading.stages.ExpectedPart.{ExpectedPart}

-- how many links and rows come between the claim and the end
abbrev pub rows_at : ExpectedPart → ℕ
rows_at coming.Whole = 0
rows_at (coming.Links left) = links_from left.transactions left.many
rows_at (coming.Mark version table) = rows_from table (height table)
rows_at (coming.Rows left) = rows_from left.table left.many

abbrev pub rows_in : ReadingStage → ℕ
rows_in (stage.Going at) = rows_at at
rows_in stage.Ended = 0
rows_in (stage.Stopped fault) = 0

-- these are the parts from the position on, where this is still to come
abbrev pub IsBehind : ExpectedPart → Position → Parts → Type 0
IsBehind coming.Whole at ahead = ahead ≡ whole_parts at
IsBehind (coming.Links left) at ahead = (from : ℕ) × (ahead ≡ link_rows left.version left.transactions from left.many at)
IsBehind (coming.Mark version table) at ahead = ahead ≡ table_parts version table at
IsBehind (coming.Rows left) at ahead =
    (from : ℕ) × (from + left.many ≡ height left.table) × (ahead ≡ table_rows left.version left.table from left.many at)

abbrev pub IsAheadIn : {R : Type 0} → (R → Option (List ℕ)) → Input R → ReadingStage → Parts → Type 0
IsAheadIn remaining input (stage.Going coming) ahead = (at : Position) × IsAt remaining input at × IsBehind coming at ahead
IsAheadIn remaining input stage.Ended ahead = ahead ≡ ending ahead.line None
IsAheadIn remaining input (stage.Stopped fault) ahead = ahead ≡ stopped fault

-- these are the parts that are still to come, where the reader's bytes are known
abbrev pub IsAhead : {R : Type 0} → (R → Option (List ℕ)) → CertReader R → Parts → Type 0
IsAhead remaining reader ahead = IsAheadIn remaining reader.input reader.stage ahead

-- the number of the line that is read next
abbrev pub line_wanted : {R : Type 0} → CertReader R → ℕ
line_wanted reader = reader.input.number

-- a read of the reader has failed
abbrev pub ReaderFailed : {R : Type 0} → CertReader R → Type 0
ReaderFailed reader = HasFailed reader.input

-- how many links and rows come between the claim and the end
abbrev pub rows_left : {R : Type 0} → CertReader R → ℕ
rows_left reader = rows_in reader.stage

-- nothing was asked for yet
abbrev pub new_in : ReadingStage → Bool
new_in (stage.Going coming.Whole) = true
new_in _ = false

abbrev pub is_new : {R : Type 0} → CertReader R → Bool
is_new reader = new_in reader.stage

-- the fault that was met, if there was one
abbrev pub fault_in : ReadingStage → Option CertFault
fault_in (stage.Going at) = None
fault_in stage.Ended = None
fault_in (stage.Stopped fault) = Some fault

abbrev pub fault_met : {R : Type 0} → CertReader R → Option CertFault
fault_met reader = fault_in reader.stage

-- the end was met
abbrev pub ended_in : ReadingStage → Bool
ended_in (stage.Going at) = false
ended_in stage.Ended = true
ended_in (stage.Stopped fault) = false

abbrev pub has_ended : {R : Type 0} → CertReader R → Bool
has_ended reader = ended_in reader.stage

-- a claim, without its links and tables
abbrev pub is_claim : Part → Bool
is_claim (part.Order head) = true
is_claim (part.Cycle head) = true
is_claim _ = false

abbrev pub is_end : Part → Bool
is_end part.End = true
is_end _ = false

-- the first of the parts to come was given, and the others are still to come; or a fault was given, and comes again
abbrev pub TakesPart : {R : Type 0} → (R → Option (List ℕ)) → ℕ → Parts → Result Part CertFault → CertReader R → Type 0
TakesPart remaining wanted ahead (Ok given) new = (rest : Parts) × IsFirst given ahead rest × IsAhead remaining new rest
TakesPart remaining wanted ahead (Err fault) new = FaultsIn (ReaderFailed new) wanted ahead fault × IsAhead remaining new (stopped fault)
