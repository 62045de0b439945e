-- What a survey says of a snapshot, and what a run of survey does with the bytes of records.
use Rattle.std.specs.Prelude.{ℕ, ◌≡◌, ◌⊎◌, List, Option, None, if◌then◌else◌}
use Rattle.tcc_txn.specs.Snapshots.{Sessions}
use Rattle.tcc_txn.specs.declared.limits.Limits.{Limits}
use Rattle.tcc_txn.specs.declared.limits.Limits.TheVariants.{Large, Small}
use Rattle.tcc_rows.specs.Answers.{Answers, answers_within}
use Rattle.tcc_rows.specs.Items.{finished_in}
use Rattle.tcc_reads.specs.Faults.{read_faults}
use Rattle.tcc_reads.specs.Traced.{traced_history}
use Rattle.tcc_graph.specs.Levels.{judged}
use Rattle.tcc_survey.specs.Circles.{IsAcyclic, IsCircle}
use Rattle.tcc_survey.specs.Contradictions.{AreContradicted}
use Rattle.tcc_survey.specs.declared.contradicted.Contradicted.{Contradicted}
use Rattle.tcc_print.specs.Courses.{MayEnd}
use Rattle.tcc_print.specs.Printed.{Prints, printed_error}
use Rattle.tcc_print.specs.Statuses.{run_error_status}
use Rattle.tcc_print.specs.declared.run_error.RunError.{RunError}
use Rattle.tcc_print.specs.declared.status.Status.{Status}
use Rattle.tcc_print.specs.declared.status.Status.TheVariants.{Anomaly}
use Rattle.tcc_survey_run.specs.Surveys.{GoesOut, circle_line, survey_status, survey_text}
use Rattle.tcc_survey_run.specs.Told.{AreNames, AreTold}
use Rattle.tcc_survey_run.specs.declared.counting.NameCount.{NameCount}
use Rattle.tcc_survey_run.specs.declared.options.SurveyOptions.{SurveyOptions}
use Rattle.tcc_survey_run.specs.declared.told.ToldRead.{ToldRead}

-- ---- one snapshot

-- causal pairs of its traced history are in no circle: all its contradicted reads, all read faults, and how many reads there are of
-- each name
abbrev pub IsListing : SurveyOptions → Sessions → List ℕ → Status → Type 0
IsListing options s text status =
    (found : List Contradicted) × (told : List ToldRead) × (names : List NameCount)
    × IsAcyclic (traced_history s) × AreContradicted (judged (traced_history s) options.level) found
    × AreTold s (traced_history s) found told × AreNames told names
    × (text ≡ survey_text options.json (traced_history s) told (read_faults s) names) × (status ≡ survey_status told (read_faults s))

-- transactions of its traced history in a circle
abbrev pub IsCircular : SurveyOptions → Sessions → List ℕ → Status → Type 0
IsCircular options s text status =
    (circle : List ℕ) × IsCircle (traced_history s) circle
    × (text ≡ circle_line options.json (traced_history s) circle) × (status ≡ Anomaly)

-- what a survey says of a snapshot, and how a run ends that says it
abbrev pub IsSaid : SurveyOptions → Sessions → List ℕ → Status → Type 0
IsSaid options s text status = IsListing options s text status ⊎ IsCircular options s text status

-- ---- a run

abbrev pub limits_of : SurveyOptions → Limits
limits_of options = if options.large then Large else Small

-- the answers to the bytes of records, at the limits that are asked for
abbrev pub answers_of : SurveyOptions → List ℕ → Answers
answers_of options bytes = answers_within (limits_of options) bytes

-- what the records finish by their end, whatever they seal
abbrev pub finished : SurveyOptions → List ℕ → Sessions
finished options bytes = finished_in (answers_of options bytes).items

-- the records have no fault, and what a survey says of all that they finish is written
abbrev pub IsSurveyed : SurveyOptions → List ℕ → Option (List ℕ) → Option (List ℕ) → ℕ → Type 0
IsSurveyed options bytes before after code =
    ((answers_of options bytes).fault ≡ None)
    × ((text : List ℕ) × (status : Status) × IsSaid options (finished options bytes) text status × GoesOut options.json before after text status code)

-- nothing is said of the records, but why: their fault, that of a reader that failed after lawful ones, or that memory is out
abbrev pub IsEndedSurvey : SurveyOptions → List ℕ → Option (List ℕ) → Option (List ℕ) → ℕ → Type 0
IsEndedSurvey options bytes before after code =
    (n : ℕ) × (why : RunError) × MayEnd (limits_of options) bytes n why × Prints before after (printed_error options.json why) (run_error_status why) code

-- what a run does with the bytes
abbrev pub IsSurveyRun : SurveyOptions → List ℕ → Option (List ℕ) → Option (List ℕ) → ℕ → Type 0
IsSurveyRun options bytes before after code = IsSurveyed options bytes before after code ⊎ IsEndedSurvey options bytes before after code
