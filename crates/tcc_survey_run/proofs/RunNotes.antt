-- What a run notes, from the notes of its stages.
use Rattle.std.proofs.Common.{◌≡◌, ℕ, true, List, [], ◌∷◌, Option, None, Ok, Err, inl, inr, refl, subst}
use Rattle.std.specs.Prelude.{◌⊎◌}
use Rattle.std.specs.Io.KnownBytes.{Appends}
use Rattle.std.proofs.KnownBytes.{Appends-nil}
use Rattle.tcc_txn.specs.Snapshots.{Sessions}
use Rattle.tcc_txn.specs.declared.limits.Limits.{Limits}
use Rattle.tcc_rows.specs.Answers.{records_within}
use Rattle.tcc_rows.specs.Lines.{Record}
use Rattle.tcc_rows.specs.Reached.{is_of_record, record_at}
use Rattle.tcc_rows.specs.Recordings.{IsRecorded}
use Rattle.tcc_rows.specs.declared.fault.RowFault.{RowFault}
use Rattle.tcc_reads.specs.Faults.{read_faults}
use Rattle.tcc_reads.specs.Traced.{traced_history}
use Rattle.tcc_reads.specs.declared.fault.ReadFault.{ReadFault}
use Rattle.tcc_survey.specs.Circles.{IsAcyclic}
use Rattle.tcc_print.specs.Notes.{AddsEach, IsNoted, read_notes}
use Rattle.tcc_print.specs.Printed.{Prints, PrintsOrMemory, memory_line, printed_error}
use Rattle.tcc_print.specs.RunErrors.{by_row}
use Rattle.tcc_print.specs.Statuses.{run_error_status}
use Rattle.tcc_print.specs.declared.run_error.RunError.{RunError}
use Rattle.tcc_print.specs.declared.run_error.RunError.TheVariants.{NoMemory}
use Rattle.tcc_print.specs.declared.status.Status.TheVariants.{Memory}
use Rattle.tcc_verdict.specs.Noting.{NotesRunError}
use Rattle.tcc_verdict.specs.Stopping.{NotesStop}
use Rattle.tcc_verdict.proofs.NotesLemmas.{fault_noted, fault_shown}
use Rattle.tcc_survey_run.specs.Noting.{IsNotedSurvey, NotesSnapshot}
use Rattle.tcc_survey_run.specs.Runs.{IsSurveyed, answers_of, finished, limits_of}
use Rattle.tcc_survey_run.specs.Texts.{no_answer_note}
use Rattle.tcc_survey_run.specs.private.Saying.{SaysSurvey}
use Rattle.tcc_survey_run.specs.declared.options.SurveyOptions.{SurveyOptions}
use Rattle.tcc_survey_run.proofs.Runs.{may_end}

-- ---- of a snapshot

-- where nothing is written, no more than a part of each note is
none_added : (kept : Option (List ℕ)) (texts : List (List ℕ)) → AddsEach kept kept texts
none_added kept [] = Appends-nil kept
none_added kept (text ∷ texts) = (kept, (0, Appends-nil kept), none_added kept texts)

pub nothing_noted : (s : Sessions) (code : ℕ) (kept : Option (List ℕ)) → NotesSnapshot s code kept kept
nothing_noted s code kept = record {
  listing = (kept, none_added kept (read_notes s (read_faults s)), (0, Appends-nil kept));
  circular = λ circle. Appends-nil kept;
}

-- the notes of a listing
pub listing_noted : (s : Sessions) (code : ℕ) (faults : List ReadFault) (before between after : Option (List ℕ))
    → faults ≡ read_faults s → IsAcyclic (traced_history s) → AddsEach before between (read_notes s faults)
    → IsNoted between after (no_answer_note code) → NotesSnapshot s code before after
listing_noted s code faults before between after same acyclic reads end = record {
  listing = (between, subst (λ faults. AddsEach before between (read_notes s faults)) same reads, end);
  circular = λ circle. absurd (circle acyclic);
}

-- ---- of a run

-- memory was out before anything was read
pub nothing_read : (options : SurveyOptions) (bytes : List ℕ) (kept before after : Option (List ℕ)) (code : ℕ)
    → Prints before after (memory_line options.json) Memory code → IsNotedSurvey options bytes kept kept before after code
nothing_read options bytes kept before after code prints = inr (0, NoMemory, tt, Appends-nil kept, inl prints)

-- what the records finish is surveyed
pub noted_answer : (options : SurveyOptions) (bytes : List ℕ) (limits : Limits) (s : Sessions) (noted noted' before after : Option (List ℕ)) (code : ℕ)
    → limits ≡ limits_of options → IsRecorded limits bytes (Ok s) → SaysSurvey options s before after code → NotesSnapshot s code noted noted'
    → IsNotedSurvey options bytes noted noted' before after code
noted_answer options bytes limits s noted noted' before after code same is says notes =
    let whole = subst (λ l. IsRecorded l bytes (Ok s)) same is in
    inl (
      whole.0,
      subst (λ (s : Sessions). NotesSnapshot s code noted noted') whole.1 notes,
      by_kind whole.0 (subst (λ (s : Sessions). SaysSurvey options s before after code) whole.1 says),
    )
  where
    by_kind : (answers_of options bytes).fault ≡ None → SaysSurvey options (finished options bytes) before after code
        → IsSurveyed options bytes before after code ⊎ Prints before after (memory_line options.json) Memory code
    by_kind lawful (inl said) = inl (lawful, said)
    by_kind lawful (inr memory) = inr memory

-- the records have a fault
pub noted_stop : (options : SurveyOptions) (bytes : List ℕ) (limits : Limits) (fault : RowFault) (last : Record)
    (noted noted' before after : Option (List ℕ)) (code : ℕ)
    → limits ≡ limits_of options → IsRecorded limits bytes (Err fault)
    → (is_of_record fault.kind ≡ true → last ≡ record_at fault.row (records_within limits bytes))
    → NotesStop limits fault last noted noted'
    → PrintsOrMemory options.json before after (printed_error options.json (by_row fault)) (run_error_status (by_row fault)) code
    → IsNotedSurvey options bytes noted noted' before after code
noted_stop options bytes limits fault last noted noted' before after code same is shown stops prints =
    let ends = may_end (limits_of options) bytes fault (subst (λ l. IsRecorded l bytes (Err fault)) same is) in
    inr (
      ends.0,
      by_row fault,
      ends.1,
      subst (λ (l : Limits). NotesRunError l bytes (by_row fault) noted noted') same
          (fault_noted noted noted' limits bytes {T = ℕ} fault (Err (by_row fault)) refl
          (fault_shown noted noted' limits fault last (record_at fault.row (records_within limits bytes)) shown stops)),
      prints,
    )
