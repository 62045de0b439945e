-- What a run says of one snapshot, whatever its outcomes are.
use Rattle.std.specs.Prelude.{ℕ, ◌≡◌, ◌≢◌, ◌⊎◌, List, Option, IfSome, MatchResult, Result, Ok}
use Rattle.std.specs.Io.KnownBytes.{Appends}
use Rattle.tcc_rows.specs.declared.recording.Checkpoint.{Checkpoint}
use Rattle.tcc_rows.specs.declared.recording.Checkpoint.TheVariants as checkpoint
use Rattle.tcc_reads.specs.declared.fault.ReadFault.{ReadFault}
use Rattle.tcc_txn.specs.Finished.{transaction_count}
use Rattle.tcc_txn.specs.Snapshots.{Sessions}
use Rattle.tcc_txn.specs.declared.limits.Limits.{Limits}
use Rattle.tcc_print.specs.Courses.{AreSaidFaults, Said}
use Rattle.tcc_print.specs.Notes.{AddsEach, read_notes}
use Rattle.tcc_print.specs.Printed.{CutsOff, Prints, memory_line}
use Rattle.tcc_print.specs.declared.previous.PreviousAnswer.{PreviousAnswer}
use Rattle.tcc_print.specs.declared.options.Options.{Options}
use Rattle.tcc_print.specs.declared.status.Status.TheVariants.{Memory}

-- a run within limits: what may be said of a snapshot, what is known of an outcome of it, and what is said by each
pub record Course (O : Type 0) : Type 1 where
  pub limits : Limits
  pub options : Options
  pub is_said : Sessions → Said → Type 0
  pub is_outcome : Sessions → O → Type 0
  pub say : O → Said

-- the outcome is one of this snapshot, and was said of it
abbrev pub IsTold : {O : Type 0} → Course O → Sessions → O → Type 0
IsTold course s o = course.is_said s (course.say o) × course.is_outcome s o

-- what was said last was said of this snapshot
abbrev pub IsFor : {O : Type 0} → Course O → Sessions → PreviousAnswer O → Type 0
IsFor course s last = (last.transactions ≡ transaction_count s) × IsTold course s last.outcome

-- what was said last, if anything was, is to be said of this snapshot too, if it was said for as many transactions
abbrev pub IsStill : {O : Type 0} → Course O → Sessions → Option (PreviousAnswer O) → Type 0
IsStill course s last = IfSome last (λ last. last.transactions ≡ transaction_count s → IsTold course s last.outcome)

-- this is what was said last, if anything was, if that was for as many transactions as the snapshot has
abbrev pub Repeats : {O : Type 0} → Course O → Sessions → Option (PreviousAnswer O) → Said → Type 0
Repeats course s last said = IfSome last (λ last. last.transactions ≡ transaction_count s → said ≡ course.say last.outcome)

-- what is to be said of the snapshot was said, and is what was said last from then on
abbrev pub SaysLast : {O : Type 0} → Course O → Sessions → Option (List ℕ) → Option (List ℕ) → PreviousAnswer O → Type 0
SaysLast course s before after last = IsFor course s last × Appends before after (course.say last.outcome).text

-- the run ended while it said an outcome of a snapshot, of which this holds
abbrev pub EndsSaying : {O : Type 0} → Course O → Sessions → (Said → Type 0) → Option (List ℕ) → Option (List ℕ) → ℕ → Type 0
EndsSaying course s holds before after code =
    ((said : Said) × course.is_said s said × holds said × CutsOff before after said.text code)
    ⊎ Prints before after (memory_line course.options.json) Memory code

abbrev pub EndsAnswering : {O : Type 0} → Course O → Sessions → Option (List ℕ) → Option (List ℕ) → ℕ → Type 0
EndsAnswering course s before after code = EndsSaying course s (λ said. Unit {0}) before after code

-- what is said of a snapshot, after what was said last; where nothing was finished since then, the same once more
abbrev pub SaysAgain : {O : Type 0} → Course O → Sessions → Option (PreviousAnswer O) → Option (List ℕ) → Option (List ℕ) → PreviousAnswer O → Type 0
SaysAgain course s last before after now = SaysLast course s before after now × Repeats course s last (course.say now.outcome)

abbrev pub EndsAgain : {O : Type 0} → Course O → Sessions → Option (PreviousAnswer O) → Option (List ℕ) → Option (List ℕ) → ℕ → Type 0
EndsAgain course s last before after code = EndsSaying course s (Repeats course s last) before after code

-- What was said at a checkpoint of the recording. At a seal it is what is to be said of the snapshot, even if it was said before. At the end
-- it is the same, unless that was said last.
abbrev pub SaysAt : {O : Type 0} → Course O → Checkpoint → Sessions → Option (PreviousAnswer O) → Option (List ℕ) → Option (List ℕ) → Result (PreviousAnswer O) ℕ → Type 0
SaysAt course checkpoint.Seal s last before after r =
    IsStill course s last → MatchResult r (SaysAgain course s last before after) (EndsAgain course s last before after)
SaysAt course checkpoint.End s last before after r =
    IfSome last (λ last. last.transactions ≡ transaction_count s → (after ≡ before) × (r ≡ Ok last))
    × (IfSome last (λ last. last.transactions ≢ transaction_count s)
    → MatchResult r (SaysLast course s before after) (EndsAnswering course s before after))

-- ---- what is noted of it

-- of each of the first read faults that are said, at most a part of its note was written, from its front
abbrev pub NotesFaults : Options → Sessions → Said → Option (List ℕ) → Option (List ℕ) → Type 0
NotesFaults options s said before after = (faults : List ReadFault) × AreSaidFaults options said faults × AddsEach before after (read_notes s faults)
