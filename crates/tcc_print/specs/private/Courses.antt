-- How a run goes on or ends, whatever its outcomes are.
use Rattle.std.specs.Prelude.{ℕ, ◌≡◌, ◌⊎◌, List, Option, None, Some}
use Rattle.std.specs.Io.KnownBytes.{Appends}
use Rattle.std.specs.List.{last_or}
use Rattle.tcc_rows.specs.Answers.{answers_within}
use Rattle.tcc_rows.specs.Items.{finished_in}
use Rattle.tcc_print.specs.Courses.{IsCourse, IsWholeCourse, Said, texts}
use Rattle.tcc_print.specs.Printed.{CutsOff}
use Rattle.tcc_print.specs.Saying.{Course}
use Rattle.tcc_print.specs.Statuses.{code_of}
use Rattle.tcc_print.specs.declared.previous.PreviousAnswer.{PreviousAnswer}

-- all is answered, and this is what was said last, of all that was finished
abbrev pub AllAnswered : {O : Type 0} → Course O → List ℕ → Option (List ℕ) → Option (List ℕ) → PreviousAnswer O → Type 0
AllAnswered course bytes before after last =
    (said : List Said) × IsWholeCourse course.is_said (answers_within course.limits bytes) said × (last_or None said ≡ Some (course.say last.outcome))
    × course.is_outcome (finished_in (answers_within course.limits bytes).items) last.outcome × Appends before after (texts said)

-- the run ended before it came to a file: all was written, and the last text has no certificate; or a write failed
abbrev pub EndsEarly : {O : Type 0} → Course O → List ℕ → Option (List ℕ) → Option (List ℕ) → ℕ → Type 0
EndsEarly course bytes before after code =
    IsCourse course.limits course.is_said course.options bytes
    (λ text last. (Appends before after text × (last.certificate ≡ None) × (code ≡ code_of last.status)) ⊎ CutsOff before after text code)
