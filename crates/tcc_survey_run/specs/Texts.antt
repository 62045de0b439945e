-- The lines of a survey as text.
use Rattle.std.specs.Prelude.{ℕ, ◌==◌, List, [], ◌++◌, flat_map, codes, decimal, if◌then◌else◌}
use Rattle.tcc_print.specs.Texts.{operation_text}
use Rattle.tcc_survey_run.specs.declared.counting.NameCount.{NameCount}
use Rattle.tcc_survey_run.specs.declared.told.ToldRead.{ToldRead}
use Rattle.tcc_survey_run.specs.Told.{name_words}

-- `contradicted READER op I KEY VALUE: knew of WRITER, NAME`
abbrev pub read_text : List ℕ → List ℕ → ToldRead → List ℕ
read_text reader writer told =
    codes "contradicted "
    ++ (reader
    ++ (operation_text told.op told.key told.value
    ++ (codes ": knew of " ++ (writer
    ++ (codes ", " ++ (name_words told.name ++ codes "\n"))))))

-- NAME: COUNT
abbrev pub name_text : NameCount → List ℕ
name_text one = name_words one.name ++ (codes ": " ++ (decimal one.count ++ codes "\n"))

-- N contradicted reads of M, F faults
abbrev pub total_text : ℕ → ℕ → ℕ → List ℕ
total_text contradicted reads faults =
    decimal contradicted ++ (codes " contradicted reads of " ++ (decimal reads ++ (codes ", " ++ (decimal faults ++ codes " faults\n"))))

-- circular: A B ..
abbrev pub circle_text : List (List ℕ) → List ℕ
circle_text labels = codes "circular:" ++ (flat_map (λ label. codes " " ++ label) labels ++ codes "\n")

-- that no contradicted read is no answer
abbrev pub nothing_note : List ℕ
nothing_note = codes "no read is contradicted, which is no answer: ask tcc explain\n"

-- what is noted where a survey ends with this number
abbrev pub no_answer_note : ℕ → List ℕ
no_answer_note code = if code == 0 then nothing_note else []
