-- What is said of a survey, and how it is written.
use Rattle.std.specs.Prelude.{ℕ, ◌≡◌, ◌⊎◌, Bool, List, [], ◌∷◌, ◌++◌, length, map, take, flat_map, sum_by, codes, Option, if◌then◌else◌}
use Rattle.std.specs.Io.KnownBytes.{Appends}
use Rattle.tcc_reads.specs.History.{History}
use Rattle.tcc_reads.specs.declared.fault.ReadFault.{ReadFault}
use Rattle.tcc_graph.specs.Numbers.{label}
use Rattle.tcc_answer.specs.Json.{json_line}
use Rattle.tcc_print.specs.Printed.{CutsOff, Prints, memory_line, unresolved}
use Rattle.tcc_print.specs.Statuses.{code_of}
use Rattle.tcc_print.specs.declared.status.Status.{Status}
use Rattle.tcc_print.specs.declared.status.Status.TheVariants.{Anomaly, Memory, ReadFaults, Success}
use Rattle.tcc_survey_run.specs.Json.{circle_json, name_json, read_json, total_json}
use Rattle.tcc_survey_run.specs.Texts.{circle_text, name_text, read_text, total_text}
use Rattle.tcc_survey_run.specs.declared.counting.NameCount.{NameCount}
use Rattle.tcc_survey_run.specs.declared.told.ToldRead.{ToldRead}

-- ---- what is said

abbrev pub read_line : Bool → History → ToldRead → List ℕ
read_line json h told =
    let reader = label h told.reader in
    let writer = label h told.writer in
    if json then json_line (read_json reader writer told) else read_text reader writer told

abbrev pub name_line : Bool → NameCount → List ℕ
name_line json one = if json then json_line (name_json one) else name_text one

abbrev pub total_line : Bool → ℕ → ℕ → ℕ → List ℕ
total_line json contradicted reads faults = if json then json_line (total_json contradicted reads faults) else total_text contradicted reads faults

abbrev pub circle_line : Bool → History → List ℕ → List ℕ
circle_line json h circle = if json then json_line (circle_json (map (label h) circle)) else circle_text (map (label h) circle)

-- all read faults, as explain prints them; where there is none nothing
abbrev pub fault_lines : Bool → List ReadFault → List ℕ
fault_lines json [] = []
fault_lines json (first ∷ others) = unresolved json (first ∷ others)

-- how many external reads of a history have a source: of one transaction each key and source once
abbrev pub read_count : History → ℕ
read_count h = sum_by (λ e. length e.reads) h.entries

-- the contradicted reads, the faults, the names with their counts, and the totals
abbrev pub survey_text : Bool → History → List ToldRead → List ReadFault → List NameCount → List ℕ
survey_text json h told faults names =
    flat_map (read_line json h) told
    ++ (fault_lines json faults
    ++ (flat_map (name_line json) names ++ total_line json (length told) (read_count h) (length faults)))

-- contradicted reads, or else read faults, or nothing
abbrev pub survey_status : List ToldRead → List ReadFault → Status
survey_status (one ∷ others) faults = Anomaly
survey_status [] (first ∷ others) = ReadFaults
survey_status [] [] = Success

-- ---- how it is written

abbrev pub EndsLine : List ℕ → Type 0
EndsLine text = (front : List ℕ) × (text ≡ front ++ codes "\n")

-- the text is empty, or its last line ends
abbrev pub AreWholeLines : List ℕ → Type 0
AreWholeLines text = (text ≡ []) ⊎ EndsLine text

-- a part of a text, from its front, was written, and then a writer failed; or whole lines of it were written, and then memory was out, and
-- that was said after them
abbrev pub BreaksOff : Bool → Option (List ℕ) → Option (List ℕ) → List ℕ → ℕ → Type 0
BreaksOff json before after text code =
    CutsOff before after text code
    ⊎ ((n : ℕ) × (between : Option (List ℕ)) × AreWholeLines (take n text) × Appends before between (take n text)
    × Prints between after (memory_line json) Memory code)

-- the text was written whole, and the status is its own; or it broke off
abbrev pub GoesOut : Bool → Option (List ℕ) → Option (List ℕ) → List ℕ → Status → ℕ → Type 0
GoesOut json before after text status code =
    (Appends before after text × (code ≡ code_of status)) ⊎ BreaksOff json before after text code
