-- The answers for the records of an input, and what a run of explain does with their bytes.
use Rattle.std.specs.Prelude.{ℕ, ◌≡◌, ◌≢◌, ◌⊎◌, List, [], ◌∷◌, ◌++◌, Option, None, Some}
use Rattle.tcc_rows.specs.Answers as rows
use Rattle.tcc_txn.specs.Snapshots.{Sessions}
use Rattle.tcc_txn.specs.declared.limits.Limits.TheVariants.{Small}
use Rattle.tcc_rows.specs.declared.fault.RowFault.{RowFault}
use Rattle.tcc_reads.specs.Faults.{read_faults}
use Rattle.tcc_reads.specs.Sources.{history}
use Rattle.tcc_explain.specs.Explained.{IsAnswerOfHistory}
use Rattle.tcc_answer.specs.declared.answer.Answer.{Answer}
use Rattle.tcc_graph.specs.Levels.{judged}
use Rattle.tcc_print.specs.Courses as course
use Rattle.tcc_print.specs.Courses.{AreSaid, Contents, IsEndedAfter, Said, answer_said, faults_said, run_error_said}
use Rattle.tcc_print.specs.Checkpoints.{sealed_in}
use Rattle.tcc_print.specs.declared.run_error.RunError.TheVariants as error
use Rattle.tcc_print.specs.declared.options.Options.{Options}
use Rattle.tcc_run.specs.LargeRuns.{IsRun}

-- ---- one answer

-- what is said about a snapshot: the first answer for its history at the level that is asked for, where all its reads have sources, else
-- all its read faults
abbrev pub IsSaidOfSnapshot : Options → Sessions → Said → Type 0
IsSaidOfSnapshot options s said =
    ((read_faults s ≡ []) × (a : Answer) × IsAnswerOfHistory (judged (history s) options.level) a × (said ≡ answer_said options a))
    ⊎ ((read_faults s ≢ []) × (said ≡ faults_said options (read_faults s)))

-- ---- a run

-- options that ask for the same: they may differ only in the number of workers
pub record AskAlike (some : Options) (other : Options) : Type 0 where
  pub level : some.level ≡ other.level
  pub form : some.json ≡ other.json
  pub required : some.required ≡ other.required

-- the records have no fault, and there is an answer at each seal, and one at the end where it is due
abbrev pub IsWholeRun : Options → rows.Answers → List Said → Type 0
IsWholeRun options all said = course.IsWholeCourse (IsSaidOfSnapshot options) all said

-- the run was ended after some items: it gave the answers at the seals among them, and then the reason
abbrev pub IsEndedRun : Options → List ℕ → List Said → Type 0
IsEndedRun options text said = course.IsEndedCourse Small (IsSaidOfSnapshot options) options text said

-- a run said these texts, of which these are its answers: all of them, or all but the line of what ended it
abbrev pub AreAnswersOfRun : Options → List ℕ → List Said → List Said → Type 0
AreAnswersOfRun options text said answers =
    (IsWholeRun options (rows.answers_of text) said × (answers ≡ said)) ⊎ IsEndedAfter Small (IsSaidOfSnapshot options) options text answers said

-- the run was ended by the fault of the records: it gave the answers at all seals before the fault, and then its line
abbrev pub IsStopped : Options → rows.Answers → List Said → Type 0
IsStopped options all said =
    (fault : RowFault) × (answers : List Said) × (all.fault ≡ Some fault) × AreSaid (IsSaidOfSnapshot options) (sealed_in all.items) answers
    × (said ≡ answers ++ run_error_said options (error.Row fault) ∷ [])

-- the one list is the beginning of the other
abbrev pub AreFront : List Said → List Said → Type 0
AreFront some all = (rest : List Said) × (all ≡ some ++ rest)

-- ---- what is written

-- what a run without --large does with the bytes: its texts are written one after the other. After them, to the file that is given for it,
-- comes the certificate of the last; the status is that of the last. No file is given for a slice
abbrev pub IsExplainRun : Options → List ℕ → Option (List ℕ) → Option (List ℕ) → Contents → Contents → ℕ → Type 0
IsExplainRun options bytes before after file file' code =
    IsRun Small (IsSaidOfSnapshot options) options bytes before after (record { certificate = file; slice = None })
    (record { certificate = file'; slice = None }) code
