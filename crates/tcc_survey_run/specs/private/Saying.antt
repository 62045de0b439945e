-- How what a survey finds is said.
use Rattle.std.specs.Prelude.{ℕ, ◌⊎◌, Bool, List, Option}
use Rattle.tcc_txn.specs.Snapshots.{Sessions}
use Rattle.tcc_reads.specs.Faults.{read_faults}
use Rattle.tcc_reads.specs.History.{History}
use Rattle.tcc_print.specs.Printed.{Prints, memory_line}
use Rattle.tcc_print.specs.declared.status.Status.{Status}
use Rattle.tcc_print.specs.declared.status.Status.TheVariants.{Memory}
use Rattle.tcc_survey.specs.declared.contradicted.Contradicted.{Contradicted}
use Rattle.tcc_survey_run.specs.Runs.{IsSaid}
use Rattle.tcc_survey_run.specs.Surveys.{GoesOut, survey_status, survey_text}
use Rattle.tcc_survey_run.specs.Told.{AreNames, AreTold}
use Rattle.tcc_survey_run.specs.declared.counting.NameCount.{NameCount}
use Rattle.tcc_survey_run.specs.declared.options.SurveyOptions.{SurveyOptions}
use Rattle.tcc_survey_run.specs.declared.told.ToldRead.{ToldRead}

-- the lines of what is contradicted are written, or memory was out before
abbrev pub SaysFound : Bool → Sessions → History → List Contradicted → Option (List ℕ) → Option (List ℕ) → ℕ → Type 0
SaysFound json s h found before after code =
    ((told : List ToldRead) × (names : List NameCount) × AreTold s h found told × AreNames told names
    × GoesOut json before after (survey_text json h told (read_faults s) names) (survey_status told (read_faults s)) code)
    ⊎ Prints before after (memory_line json) Memory code

-- what a survey says of a snapshot is written, or memory was out before
abbrev pub SaysSurvey : SurveyOptions → Sessions → Option (List ℕ) → Option (List ℕ) → ℕ → Type 0
SaysSurvey options s before after code =
    ((text : List ℕ) × (status : Status) × IsSaid options s text status × GoesOut options.json before after text status code)
    ⊎ Prints before after (memory_line options.json) Memory code
