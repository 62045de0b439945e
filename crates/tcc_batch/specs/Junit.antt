-- A report on histories in JUnit's form: a test case for each.
use Rattle.std.specs.Prelude.{ℕ, ◌++◌, ◌==◌, Bool, List, ◌∷◌, [], codes, count_by, decimal, flat_map, length, nat_lt, if◌then◌else◌}
use Rattle.std.specs.String.{string_bytes}
use Rattle.tcc_batch.specs.Findings.{finding_line}
use Rattle.tcc_batch.specs.Reports.{is_anomaly, is_consistent, is_unjudged}
use Rattle.tcc_batch.specs.declared.report.Report.{Report}

-- a byte within a value in quotation marks; XML has no form for other control characters
abbrev pub escaped_byte : ℕ → List ℕ
escaped_byte byte =
    if byte == 34 then codes "&quot;"
    else if byte == 38 then codes "&amp;"
    else if byte == 60 then codes "&lt;"
    else if byte == 62 then codes "&gt;"
    else if byte == 9 then codes "&#9;"
    else if byte == 10 then codes "&#10;"
    else if byte == 13 then codes "&#13;"
    else if nat_lt byte 32 then codes "?"
    else byte ∷ []

abbrev pub escaped : List ℕ → List ℕ
escaped text = flat_map escaped_byte text

-- an anomaly is a failure; what wasn't judged is an error
abbrev pub fault_word : Report → List ℕ
fault_word report = if is_anomaly report then codes "failure" else codes "error"

-- what a test case has after its name
abbrev pub case_end : Report → List ℕ
case_end report =
    if is_consistent report then codes "\"/>\n"
    else codes "\"><" ++ (fault_word report ++ (codes " message=\"" ++ (escaped (finding_line report.finding) ++ codes "\"/></testcase>\n")))

unfoldable pub case_text : Report → List ℕ
case_text report = codes "  <testcase classname=\"tcc\" name=\"" ++ (escaped (string_bytes report.name) ++ case_end report)

-- the first two lines
abbrev pub suite_text : ℕ → ℕ → ℕ → List ℕ
suite_text tests failures errors =
    codes "<?xml version=\"1.0\" encoding=\"UTF-8\"?>\n<testsuite name=\"tcc batch\" tests=\""
    ++ (decimal tests ++ (codes "\" failures=\"" ++ (decimal failures ++ (codes "\" errors=\"" ++ (decimal errors ++ codes "\">\n")))))

abbrev pub junit_text : List Report → List ℕ
junit_text reports =
    suite_text (length reports) (count_by is_anomaly reports) (count_by is_unjudged reports)
    ++ (flat_map case_text reports ++ codes "</testsuite>\n")
