-- What a run does with its bytes, from what its stages say.
use Rattle.std.proofs.Common.{◌≡◌, ℕ, Bool, true, false, cond, List, length, Option, Ok, Err, inl, inr, refl, sym, ap, subst, ◌∙◌}
use Rattle.tcc_txn.specs.Snapshots.{Sessions}
use Rattle.tcc_txn.specs.declared.limits.Limits.{Limits}
use Rattle.tcc_reads.specs.Faults.{read_faults}
use Rattle.tcc_reads.specs.History.{History}
use Rattle.tcc_reads.specs.Traced.{traced_history}
use Rattle.tcc_graph.specs.Levels.{judged}
use Rattle.tcc_survey.specs.Circles.{IsAcyclic, IsCircle}
use Rattle.tcc_survey.specs.Contradictions.{AreContradicted}
use Rattle.tcc_survey.specs.declared.contradicted.Contradicted.{Contradicted}
use Rattle.tcc_rows.specs.Answers.{answers_within, records_within}
use Rattle.tcc_rows.specs.Failing.{items_before_within}
use Rattle.tcc_rows.specs.Recordings.{IsRecorded}
use Rattle.tcc_rows.specs.declared.fault.RowFault.{RowFault}
use Rattle.tcc_print.specs.Courses.{MayEnd}
use Rattle.tcc_print.specs.RunErrors.{by_row, is_memory}
use Rattle.tcc_print.specs.Printed.{Prints, PrintsOrMemory, printed_error, memory_line}
use Rattle.tcc_print.specs.Statuses.{run_error_status}
use Rattle.tcc_print.specs.declared.run_error.RunError.TheVariants.{NoMemory, Row}
use Rattle.tcc_print.specs.declared.status.Status.TheVariants.{Anomaly, Memory}
use Rattle.tcc_survey_run.specs.Runs.{IsSaid, IsSurveyRun, limits_of}
use Rattle.tcc_survey_run.specs.Surveys.{GoesOut, circle_line, survey_status, survey_text}
use Rattle.tcc_survey_run.specs.private.Saying.{SaysFound, SaysSurvey}
use Rattle.tcc_survey_run.specs.declared.options.SurveyOptions.{SurveyOptions}

pub may_end : (limits : Limits) (bytes : List ℕ) (fault : RowFault) → IsRecorded limits bytes (Err fault) → (n : ℕ) × MayEnd limits bytes n (by_row fault)
may_end limits bytes fault stops = by_test (is_memory fault.kind) refl
  where
    no_memory : true ≡ false → ⊥
    no_memory h = cc

    by_test : (b : Bool) → is_memory fault.kind ≡ b → (n : ℕ) × MayEnd limits bytes n (cond b NoMemory (Row fault))
    by_test true e = (0, tt)
    by_test false e = elim stops [
      | inl faulty ↦ (length (answers_within limits bytes).items, inl (faulty, refl))
      | inr failed ↦ elim failed [
        | inl read ↦ (length (items_before_within limits fault.row (records_within limits bytes)), inr (read.0, read.1, refl))
        | inr memory ↦ absurd (no_memory (sym (ap is_memory memory.0) ∙ e))
      ]
    ]

-- memory was out before anything was said
pub out_of_memory : (options : SurveyOptions) (bytes : List ℕ) (before after : Option (List ℕ)) (code : ℕ)
    → Prints before after (memory_line options.json) Memory code → IsSurveyRun options bytes before after code
out_of_memory options bytes before after code prints = inr (0, NoMemory, tt, prints)

-- the records have a fault
pub stopped : (options : SurveyOptions) (bytes : List ℕ) (limits : Limits) (fault : RowFault) (before after : Option (List ℕ)) (code : ℕ)
    → limits ≡ limits_of options → IsRecorded limits bytes (Err fault)
    → PrintsOrMemory options.json before after (printed_error options.json (by_row fault)) (run_error_status (by_row fault)) code
    → IsSurveyRun options bytes before after code
stopped options bytes limits fault before after code same is (inl prints) =
    let ends = may_end (limits_of options) bytes fault (subst (λ l. IsRecorded l bytes (Err fault)) same is) in
    inr (ends.0, by_row fault, ends.1, prints)
stopped options bytes limits fault before after code same is (inr memory) = out_of_memory options bytes before after code memory

-- what they finish is surveyed
pub surveyed : (options : SurveyOptions) (bytes : List ℕ) (limits : Limits) (s : Sessions) (before after : Option (List ℕ)) (code : ℕ)
    → limits ≡ limits_of options → IsRecorded limits bytes (Ok s) → SaysSurvey options s before after code
    → IsSurveyRun options bytes before after code
surveyed options bytes limits s before after code same is (inl (text, status, said, out)) =
    let whole = subst (λ l. IsRecorded l bytes (Ok s)) same is in
    inl (whole.0, (text, status, subst (λ (s : Sessions). IsSaid options s text status) whole.1 said, out))
surveyed options bytes limits s before after code same is (inr memory) = out_of_memory options bytes before after code memory

-- the lines of all that is contradicted in the traced history are what is said
pub listed : (options : SurveyOptions) (s : Sessions) (h : History) (found : List Contradicted) (before after : Option (List ℕ)) (code : ℕ)
    → h ≡ traced_history s → IsAcyclic (traced_history s) × AreContradicted (judged (traced_history s) options.level) found
    → SaysFound options.json s h found before after code → SaysSurvey options s before after code
listed options s h found before after code same (acyclic, are) says = by_kind (subst (λ (h : History). SaysFound options.json s h found before after code) same says)
  where
    by_kind : SaysFound options.json s (traced_history s) found before after code → SaysSurvey options s before after code
    by_kind (inl (told, names, as_told, as_named, out)) = inl (
      survey_text options.json (traced_history s) told (read_faults s) names,
      survey_status told (read_faults s),
      inl (found, told, names, acyclic, are, as_told, as_named, refl, refl),
      out,
    )
    by_kind (inr memory) = inr memory

-- and so is the line of a circle
pub circular : (options : SurveyOptions) (s : Sessions) (h : History) (circle : List ℕ) (before after : Option (List ℕ)) (code : ℕ)
    → h ≡ traced_history s → IsCircle (traced_history s) circle
    → GoesOut options.json before after (circle_line options.json h circle) Anomaly code → SaysSurvey options s before after code
circular options s h circle before after code same is out = inl (
  circle_line options.json (traced_history s) circle,
  Anomaly,
  inr (circle, is, refl, refl),
  subst (λ (h : History). GoesOut options.json before after (circle_line options.json h circle) Anomaly code) same out,
)
