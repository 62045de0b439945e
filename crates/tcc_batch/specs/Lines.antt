-- What is written of histories, as text or as JSON.
use Rattle.std.specs.Prelude.{ℕ, ◌++◌, ◌&&◌, Bool, List, [], codes, decimal, flat_map, if◌then◌else◌}
use Rattle.std.specs.String.{string_bytes}
use Rattle.serde_json.specs.Data.{Data, number, unsigned, string, object, no_members, member}
use Rattle.tcc_answer.specs.Json.{json_line}
use Rattle.tcc_batch.specs.Findings.{finding_code, finding_line}
use Rattle.tcc_batch.specs.Reports.{is_consistent}
use Rattle.tcc_batch.specs.declared.lines.LineOptions.{LineOptions}
use Rattle.tcc_batch.specs.declared.report.Report.{Report}

-- NAME: consistent: N transactions, S sessions
abbrev pub report_text : Report → List ℕ
report_text report = string_bytes report.name ++ (codes ": " ++ (finding_line report.finding ++ codes "\n"))

abbrev pub report_json : Report → Data
report_json report = object
    (member (codes "history") (string (string_bytes report.name))
    (member (codes "line") (string (finding_line report.finding))
    (member (codes "status") (number (unsigned (finding_code report.finding)))
    no_members)))

-- as text, or as one line of JSON
abbrev pub report_line : Bool → Report → List ℕ
report_line json report = if json then json_line (report_json report) else report_text report

-- the line of a history; none of one with status 0 where failures alone are wanted
abbrev pub shown_line : LineOptions → Report → List ℕ
shown_line options report = if options.failures && is_consistent report then [] else report_line options.json report

-- the lines in the order of the histories
abbrev pub lines_text : LineOptions → List Report → List ℕ
lines_text options reports = flat_map (shown_line options) reports

-- consistent: C of N histories
abbrev pub summary_text : ℕ → ℕ → List ℕ
summary_text consistent count = codes "consistent: " ++ (decimal consistent ++ (codes " of " ++ (decimal count ++ codes " histories\n")))

abbrev pub summary_json : ℕ → ℕ → Data
summary_json consistent count = object
    (member (codes "answer") (string (codes "batch"))
    (member (codes "consistent") (number (unsigned consistent))
    (member (codes "histories") (number (unsigned count))
    no_members)))

-- as text, or as one line of JSON
abbrev pub summary_line : Bool → ℕ → ℕ → List ℕ
summary_line json consistent count = if json then json_line (summary_json consistent count) else summary_text consistent count
