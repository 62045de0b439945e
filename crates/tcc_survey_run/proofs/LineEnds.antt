-- Each line of a survey ends.
use Rattle.std.proofs.Common.{Bool, true, false, List, [], ◌∷◌, ◌++◌, length, flat_map, codes, decimal, inl, inr, refl}
use Rattle.serde_json.specs.Data.{Data}
use Rattle.serde_json.specs.Written.{compact_text}
use Rattle.tcc_reads.specs.History.{History}
use Rattle.tcc_reads.specs.declared.fault.ReadFault.{ReadFault}
use Rattle.tcc_graph.specs.Numbers.{label}
use Rattle.tcc_answer.specs.Json.{json_line}
use Rattle.tcc_print.specs.Texts.{operation_text, read_fault_told, read_fault_text}
use Rattle.tcc_print.specs.Json.{unresolved_json}
use Rattle.tcc_survey_run.specs.Json.{name_json, read_json}
use Rattle.tcc_survey_run.specs.Surveys.{AreWholeLines, EndsLine, fault_lines, name_line, read_line}
use Rattle.tcc_survey_run.specs.Told.{name_words}
use Rattle.tcc_survey_run.specs.declared.counting.NameCount.{NameCount}
use Rattle.tcc_survey_run.specs.declared.told.ToldRead.{ToldRead}
use Rattle.tcc_survey_run.proofs.Breaking.{ends_behind, ends_more, lines_all}

json_ends : (value : Data) → EndsLine (json_line value)
json_ends value = (compact_text value, refl)

pub read_ends : (json : Bool) (h : History) (told : ToldRead) → AreWholeLines (read_line json h told)
read_ends true h told = inr (json_ends (read_json (label h told.reader) (label h told.writer) told))
read_ends false h told =
    inr (ends_behind (codes "contradicted ") _
    (ends_behind (label h told.reader) _
    (ends_behind (operation_text told.op told.key told.value) _
    (ends_behind (codes ": knew of ") _
    (ends_behind (label h told.writer) _
    (ends_behind (codes ", ") (name_words told.name ++ codes "\n") (name_words told.name, refl)))))))

pub name_ends : (json : Bool) (one : NameCount) → AreWholeLines (name_line json one)
name_ends true one = inr (json_ends (name_json one))
name_ends false one = inr (ends_behind (name_words one.name) _ (ends_behind (codes ": ") (decimal one.count ++ codes "\n") (decimal one.count, refl)))

fault_ends : (fault : ReadFault) → AreWholeLines (read_fault_text fault)
fault_ends fault = inr (read_fault_told fault, refl)

pub faults_end : (json : Bool) (faults : List ReadFault) → AreWholeLines (fault_lines json faults)
faults_end json [] = inl refl
faults_end true (fault ∷ faults) = inr (json_ends (unresolved_json (fault ∷ faults)))
faults_end false (fault ∷ faults) =
    inr (ends_behind (codes "unresolved: ") _
    (ends_behind (decimal (length (fault ∷ faults))) _
    (ends_more (codes " faults\n") (flat_map read_fault_text (fault ∷ faults)) (codes " faults", refl) (lines_all read_fault_text fault_ends (fault ∷ faults)))))
