-- How far into a text a reader of parts is.
use Rattle.std.specs.Prelude.{ℕ, ◌≡◌, ◌<◌, List, Option, Result, Ok, Err}
use Rattle.tcc_cert.specs.declared.fault.CertFault.{CertFault}
use Rattle.tcc_cert.specs.declared.part.Part.{Part}
use Rattle.tcc_cert.specs.declared.part.Part.TheVariants as part
use Rattle.tcc_cert.specs.declared.reading.input.Input.{Input}
use Rattle.tcc_cert.specs.declared.reading.stages.ReadingStage.{ReadingStage}
use Rattle.tcc_cert.specs.declared.reading.stages.ReadingStage.TheVariants as stage
use Rattle.tcc_cert.specs.declared.reading.stages.ExpectedPart.{ExpectedPart}
use Rattle.tcc_cert.specs.declared.reading.stages.ExpectedPart.TheVariants as coming
use Rattle.tcc_cert.specs.InputBytes.{HasFailed}
use Rattle.tcc_cert.specs.Parts.{Parts, FaultsIn, IsFirst}
use Rattle.tcc_cert.specs.Ahead.{rows_at, IsAheadIn}

-- the first of the parts that were to come was given, and the others are still to come, or its fault was met
abbrev pub TakesStep : {R : Type 0} → (R → Option (List ℕ)) → ℕ → Parts → Result (Part × ReadingStage) CertFault → Input R → Type 0
TakesStep remaining wanted ahead (Ok given) new = (rest : Parts) × IsFirst given.0 ahead rest × IsAheadIn remaining new given.1 rest
TakesStep remaining wanted ahead (Err fault) new = FaultsIn (HasFailed new) wanted ahead fault

-- something is still to come after a claim, and not the whole text
abbrev pub IsBegun : ReadingStage → Type 0
IsBegun (stage.Going coming.Whole) = ⊥
IsBegun (stage.Going at) = Unit {0}
IsBegun stage.Ended = ⊥
IsBegun (stage.Stopped fault) = ⊥

-- after a link or a row fewer of them are left than this many
abbrev pub HasFewer : ℕ → ReadingStage → Type 0
HasFewer left (stage.Going coming.Whole) = ⊥
HasFewer left (stage.Going at) = rows_at at < left
HasFewer left stage.Ended = ⊥
HasFewer left (stage.Stopped fault) = ⊥

-- what the whole text gives first, whatever is known of the bytes
abbrev pub IsClaimStep : Part × ReadingStage → Type 0
IsClaimStep (part.Order head, after) = IsBegun after
IsClaimStep (part.Cycle head, after) = IsBegun after
IsClaimStep (_, after) = ⊥

-- what a later step gives where this many rows are left
abbrev pub IsRowStep : ℕ → Part × ReadingStage → Type 0
IsRowStep left (part.Order head, after) = ⊥
IsRowStep left (part.Cycle head, after) = ⊥
IsRowStep left (part.End, after) = after ≡ stage.Ended
IsRowStep left (_, after) = HasFewer left after

abbrev pub IsStepAt : ExpectedPart → Part × ReadingStage → Type 0
IsStepAt coming.Whole given = IsClaimStep given
IsStepAt at given = IsRowStep (rows_at at) given
