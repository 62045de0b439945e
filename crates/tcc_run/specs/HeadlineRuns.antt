-- The main theorem in bytes: what a run of explain printed.
use Rattle.std.specs.Prelude.{ℕ, ◌≡◌, ◌≢◌, ◌⊎◌, List, [], ◌++◌, Option, Result}
use Rattle.std.specs.Io.KnownBytes.{Appends}
use Rattle.tcc_txn.specs.Snapshots.{Sessions}
use Rattle.tcc_rows.specs.Answers as rows
use Rattle.tcc_rows.specs.Items.{finished_in}
use Rattle.tcc_reads.specs.Faults.{read_faults}
use Rattle.tcc_cert.specs.Texts.{certificate_text}
use Rattle.tcc_rules.specs.declared.judgement.Judgement.{Judgement}
use Rattle.tcc_answer.specs.Claims.{certificate_of}
use Rattle.tcc_answer.specs.declared.answer.Answer.{Answer}
use Rattle.tcc_explain.specs.Explained.{IsAnswerOfHistory}
use Rattle.tcc_graph.specs.Levels.{judged}
use Rattle.tcc_print.specs.Courses.{Contents, Gains, Said, answer_said, faults_said}
use Rattle.tcc_print.specs.Printed.{answered}
use Rattle.tcc_print.specs.Statuses.{answer_status, code_of}
use Rattle.tcc_print.specs.declared.run_error.RunError.{RunError}
use Rattle.tcc_print.specs.declared.options.Options.{Options}
use Rattle.tcc_reads.specs.Sources.{history}
use Rattle.tcc_verdict.specs.Checks.{IsCheck, MayBeCheck}
use Rattle.tcc_run.specs.Closing.{IsAcceptance, acceptance}
use Rattle.tcc_run.specs.Headline.{IsExplained}

-- what is said about a snapshot: an answer for which the main theorem holds, or all its read faults
abbrev pub SaysExplained : Options → Sessions → Said → Type 0
SaysExplained options s said =
    ((a : Answer) × IsExplained s options.level a × (said ≡ answer_said options a))
    ⊎ ((read_faults s ≢ []) × (said ≡ faults_said options (read_faults s)))

-- what all records finish, whatever was sealed
abbrev pub finished_by : List ℕ → Sessions
finished_by records = finished_in (rows.answers_of records).items

-- what a run wrote after the output so far and to the file for the certificate, if one is given, and its exit code
pub record PrintsExplained (options : Options) (records : List ℕ) (before : Option (List ℕ)) (after : Option (List ℕ)) (file : Contents) (file' : Contents)
    (code : ℕ) : Type 0 where
  -- the answer that was printed last is one for all that the records finish. It is a commit order that satisfies the axiom of the level, or
  -- a cycle such that no other has fewer steps, and the checker accepts its certificate. It is the first answer
  pub answer : Answer
  pub explained : IsExplained (finished_by records) options.level answer
  pub first : IsAnswerOfHistory (judged (history (finished_by records)) options.level) answer
  -- its text is the end of what was printed
  pub front : List ℕ
  pub printed : Appends before after (front ++ answered options.json answer)
  -- the text of its certificate was written to the file, and the exit code is that of its status
  pub written : Gains file file' (certificate_text (certificate_of answer))
  pub status : code ≡ code_of (answer_status options.required answer)
  -- the check of the same records accepts that text, and has no other result, unless a reader fails or memory is refused
  pub accepted : IsCheck records (certificate_text (certificate_of answer)) (acceptance (certificate_of answer))
  pub only : (o : Result Judgement RunError) → MayBeCheck records (certificate_text (certificate_of answer)) o → IsAcceptance (certificate_of answer) o
