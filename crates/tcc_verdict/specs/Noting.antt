-- What a run of the check notes beside what it prints: what to mend in the records or in their reads, and nothing else.
use Rattle.std.specs.Prelude.{ℕ, false, List, [], Option, Result, Ok, Err}
use Rattle.std.specs.Io.KnownBytes.{Appends}
use Rattle.tcc_txn.specs.Snapshots.{Sessions}
use Rattle.tcc_txn.specs.declared.limits.Limits.{Limits}
use Rattle.tcc_rows.specs.Answers.{answers_within, records_within}
use Rattle.tcc_rows.specs.Items.{finished_in}
use Rattle.tcc_rows.specs.Reached.{record_at}
use Rattle.tcc_print.specs.Notes.{AddsEach, read_notes}
use Rattle.tcc_print.specs.Printed.{PrintsOrMemory}
use Rattle.tcc_print.specs.declared.run_error.RunError.{RunError}
use Rattle.tcc_print.specs.declared.run_error.RunError.TheVariants.{Row, Reads}
use Rattle.tcc_verdict.specs.Checking.{Check, MayBe}
use Rattle.tcc_verdict.specs.Stopping.{NotesStop}

-- the notes of the result of judging a snapshot: where this is its read faults, those of the first five; else none
abbrev pub snapshot_notes : {T : Type 0} → Sessions → Result T RunError → List (List ℕ)
snapshot_notes s (Err (Reads faults)) = read_notes s faults.items
snapshot_notes s _ = []

-- What is printed in place of a verdict was noted, no more of each note than a part from its front. The fault of a record has the note
-- that shows the record at its row. Read faults have the notes of the snapshot of all that was finished. A fault of the certificate's
-- text has none, and neither has refused memory.
abbrev pub NotesRunError : Limits → List ℕ → RunError → Option (List ℕ) → Option (List ℕ) → Type 0
NotesRunError limits records (Row fault) before after = NotesStop limits fault (record_at fault.row (records_within limits records)) before after
NotesRunError limits records (Reads faults) before after = AddsEach before after (read_notes (finished_in (answers_within limits records).items) faults.items)
NotesRunError limits records _ before after = Appends before after []

-- the same of an outcome; a verdict has no notes
abbrev pub NotesOutcome : {T : Type 0} → Limits → List ℕ → Result T RunError → Option (List ℕ) → Option (List ℕ) → Type 0
NotesOutcome limits records (Ok judged) before after = Appends before after []
NotesOutcome limits records (Err why) before after = NotesRunError limits records why before after

-- an outcome for the bytes, its notes, and its text, or in place of the text that memory is out
pub record IsNotedRun {J : Type 0} (check : Check J) (records : List ℕ) (text : List ℕ) (noted_before : Option (List ℕ)) (noted_after : Option (List ℕ))
    (printed_before : Option (List ℕ)) (printed_after : Option (List ℕ)) (code : ℕ) : Type 0 where
  pub outcome : Result J RunError
  pub lawful : MayBe check records text outcome
  pub noted : NotesOutcome check.limits records outcome noted_before noted_after
  pub printed : PrintsOrMemory false printed_before printed_after (check.text outcome) (check.status outcome) code
