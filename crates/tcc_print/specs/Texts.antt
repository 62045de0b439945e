-- The texts of faults and verdicts, as they are printed: ASCII, each line ended by one line feed.
use Rattle.std.specs.Prelude.{ℕ, List, [], ◌++◌, length, flat_map, codes, decimal}
use Rattle.tcc_rows.specs.declared.fault.RowFault.{RowFault}
use Rattle.tcc_rows.specs.declared.fault.RowFaultKind.{RowFaultKind}
use Rattle.tcc_rows.specs.declared.fault.RowFaultKind.TheVariants.{Unfinished}
use Rattle.tcc_reads.specs.declared.fault.ReadFault.{ReadFault}
use Rattle.tcc_reads.specs.declared.fault.ReadFaultKind.{ReadFaultKind}
use Rattle.tcc_reads.specs.declared.fault.ReadFaultKind.TheVariants as read_kind
use Rattle.tcc_cert.specs.declared.fault.CertFault.{CertFault}
use Rattle.tcc_cert.specs.declared.fault.CertFaultKind.{CertFaultKind}
use Rattle.tcc_rules.specs.Rules.{rule_number}
use Rattle.tcc_rules.specs.declared.judgement.Claim.{Claim}
use Rattle.tcc_rules.specs.declared.judgement.Claim.TheVariants as claim
use Rattle.tcc_rules.specs.declared.verdict.Rule.{Rule}
use Rattle.tcc_rules.specs.declared.verdict.Verdict.{Verdict}
use Rattle.tcc_rules.specs.declared.verdict.Verdict.TheVariants as verdict
use Rattle.tcc_print.specs.declared.run_error.RunError.{RunError}
use Rattle.tcc_print.specs.declared.run_error.RunError.TheVariants as error
use Rattle.tcc_print.specs.Kinds.{certificate_told, row_told}

-- the place of a transaction in its session: SESSION/PLACE
abbrev pub place_text : List ℕ → ℕ → List ℕ
place_text session place = session ++ (codes "/" ++ decimal place)

-- the word of a kind of row fault
abbrev pub row_word : RowFaultKind → List ℕ
row_word kind = (row_told kind).word

-- the session that is unfinished, after a space; of the other kinds nothing
abbrev pub row_session : RowFaultKind → List ℕ
row_session (Unfinished session) = codes " " ++ session
row_session _ = []

-- row N: KIND, or row N: Unfinished SESSION
abbrev pub row_fault_text : RowFault → List ℕ
row_fault_text fault =
    codes "row " ++ (decimal fault.row ++ (codes ": " ++ (row_word fault.kind ++ (row_session fault.kind ++ codes "\n"))))

-- the word of a kind of read fault
abbrev pub read_word : ReadFaultKind → List ℕ
read_word read_kind.Duplicate = codes "Duplicate"
read_word read_kind.BrokenInternal = codes "BrokenInternal"
read_word read_kind.ThinAir = codes "ThinAir"
read_word read_kind.Aborted = codes "Aborted"
read_word read_kind.Intermediate = codes "Intermediate"
read_word read_kind.Future = codes "Future"

-- an operation: op I KEY VALUE, after a space
abbrev pub operation_text : ℕ → List ℕ → ℕ → List ℕ
operation_text op key value = codes " op " ++ (decimal op ++ (codes " " ++ (key ++ (codes " " ++ decimal value))))

-- KIND SESSION/PLACE op I KEY VALUE
abbrev pub read_fault_told : ReadFault → List ℕ
read_fault_told fault =
    read_word fault.kind
    ++ (codes " " ++ (place_text fault.session fault.place ++ operation_text fault.op fault.key fault.value))

-- the line of a read fault
abbrev pub read_fault_text : ReadFault → List ℕ
read_fault_text fault = read_fault_told fault ++ codes "\n"

-- the number of faults, and a line for each
abbrev pub unresolved_text : List ReadFault → List ℕ
unresolved_text faults = codes "unresolved: " ++ (decimal (length faults) ++ (codes " faults\n" ++ flat_map read_fault_text faults))

-- the word of a kind of fault in the text of a certificate
abbrev pub certificate_word : CertFaultKind → List ℕ
certificate_word kind = (certificate_told kind).word

-- certificate line N: KIND
abbrev pub certificate_fault_text : CertFault → List ℕ
certificate_fault_text fault = codes "certificate line " ++ (decimal fault.line ++ (codes ": " ++ (certificate_word fault.kind ++ codes "\n")))

-- accepted: order, or accepted: cycle, L steps
abbrev pub accepted_text : Claim → List ℕ
accepted_text claim.Order = codes "accepted: order\n"
accepted_text (claim.Cycle least) = codes "accepted: cycle, " ++ (decimal least ++ codes " steps\n")

-- rejected: rule K at I J
abbrev pub rejected_text : ℕ → ℕ × ℕ → List ℕ
rejected_text number at =
    codes "rejected: rule " ++ (decimal number ++ (codes " at " ++ (decimal at.0 ++ (codes " " ++ (decimal at.1 ++ codes "\n")))))

abbrev pub verdict_text : Claim → Verdict Rule → List ℕ
verdict_text k verdict.Accepted = accepted_text k
verdict_text k (verdict.Rejected rule at) = rejected_text (rule_number rule) at

-- what is printed in place of an answer or a verdict
abbrev pub run_error_text : RunError → List ℕ
run_error_text (error.Row fault) = row_fault_text fault
run_error_text (error.Reads faults) = unresolved_text faults.items
run_error_text (error.Text fault) = certificate_fault_text fault
run_error_text error.NoMemory = codes "memory\n"
