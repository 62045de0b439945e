-- What is said of one history.
use Rattle.std.specs.Prelude.{ℕ, ◌≡◌, ◌⊎◌, false, List, [], codes, None, Some}
use Rattle.std.specs.String.{string_bytes}
use Rattle.std.specs.declared.io.ErrorKind.{ErrorKind}
use Rattle.std.specs.declared.io.ErrorKind.TheVariants.{OutOfMemory}
use Rattle.tcc_txn.specs.declared.limits.Limits.{Limits}
use Rattle.tcc_txn.specs.declared.limits.Limits.TheVariants.{Small, Large}
use Rattle.tcc_print.specs.Statuses.{code_of}
use Rattle.tcc_print.specs.declared.options.Options.{Options}
use Rattle.tcc_print.specs.declared.status.Status.TheVariants.{Memory, Device}
use Rattle.tcc_run.specs.Runs.{IsExplainRun}
use Rattle.tcc_watch_run.specs.Quiet.{IsQuietRun}
use Rattle.tcc_batch.specs.Headlines.{headline}
use Rattle.tcc_batch.specs.declared.finding.Finding.{Finding}
use Rattle.tcc_batch.specs.declared.finding.Finding.TheVariants as finding
use Rattle.tcc_batch.specs.declared.judging.BatchOptions.{BatchOptions}

-- the line that is said
abbrev pub finding_line : Finding → List ℕ
finding_line (finding.Answered line code) = string_bytes line
finding_line finding.NoMemory = codes "memory"
finding_line finding.Unopened = codes "device"

-- the code that a run for the history alone ends with
abbrev pub finding_code : Finding → ℕ
finding_code (finding.Answered line code) = code
finding_code finding.NoMemory = code_of Memory
finding_code finding.Unopened = code_of Device

-- what is said of records that couldn't be opened
abbrev pub unopened : ErrorKind → Finding
unopened OutOfMemory = finding.NoMemory
unopened _ = finding.Unopened

-- a run for one history has one worker, writes text, and requires nothing
abbrev pub options_of : BatchOptions → Options
options_of asked = record { level = asked.level; workers = 1; json = false; required = 0 }

-- within these limits a run of explain, or one of explain --large --quiet, writes this text for the bytes and ends with this code
abbrev pub IsWrittenWithin : Limits → Options → List ℕ → List ℕ → ℕ → Type 0
IsWrittenWithin Small options bytes text code = IsExplainRun options bytes (Some []) (Some text) None None code
IsWrittenWithin Large options bytes text code = IsQuietRun options bytes (Some []) (Some text) code

-- a run for the history alone writes this text for its bytes and ends with this code
abbrev pub IsWritten : BatchOptions → List ℕ → List ℕ → ℕ → Type 0
IsWritten asked bytes text code = IsWrittenWithin asked.limits (options_of asked) bytes text code

-- what is said has the line of the text and the code; or memory is out
abbrev pub IsFoundIn : List ℕ → ℕ → Finding → Type 0
IsFoundIn text code found =
    ((finding_line found ≡ headline text) × (finding_code found ≡ code)) ⊎ (found ≡ finding.NoMemory)

-- what is said of a history with records of these bytes: the line of what a run writes for them, and the code that the run ends with
abbrev pub IsFinding : BatchOptions → List ℕ → Finding → Type 0
IsFinding asked bytes found =
    (text : List ℕ) × IsWritten asked bytes text (finding_code found) × (finding_line found ≡ headline text)
