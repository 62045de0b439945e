-- The codes that a run ends with.
use Rattle.std.specs.Prelude.{ℕ, ◌-◌, Option, None, Some, Result, Ok, Err, length, nat_lt, if◌then◌else◌}
use Rattle.tcc_print.specs.declared.status.Status.{Status}
use Rattle.tcc_print.specs.declared.status.Status.TheVariants as status
use Rattle.tcc_rows.specs.declared.fault.RowFaultKind.{RowFaultKind}
use Rattle.tcc_answer.specs.declared.answer.Answer.{Answer}
use Rattle.tcc_answer.specs.declared.answer.Answer.TheVariants as answer
use Rattle.tcc_cert.specs.declared.fault.CertFaultKind.{CertFaultKind}
use Rattle.tcc_rules.specs.declared.verdict.Verdict.{Verdict}
use Rattle.tcc_rules.specs.declared.verdict.Verdict.TheVariants as verdict
use Rattle.tcc_rules.specs.declared.judgement.Judgement.{Judgement}
use Rattle.tcc_print.specs.declared.run_error.RunError.{RunError}
use Rattle.tcc_print.specs.declared.run_error.RunError.TheVariants as error
use Rattle.tcc_print.specs.Kinds.{certificate_told, row_told}

-- the code of a status
abbrev pub code_of : Status → ℕ
code_of status.Success = 0
code_of status.Anomaly = 1
code_of status.ReadFaults = 2
code_of status.RowFault = 3
code_of status.TooFew = 3
code_of status.Limit = 4
code_of status.Memory = 5
code_of status.Device = 6
code_of status.Rejected = 7
code_of status.CertificateFault = 8
code_of status.Usage = 64

-- how a run ends that was ended by a row fault
abbrev pub row_status : RowFaultKind → Status
row_status kind = (row_told kind).status

-- how a run ends that gave an order of this length, where this number of transactions is required: the order has to have as many without
-- `init`
abbrev pub order_status : ℕ → ℕ → Status
order_status required numbers = if nat_lt (numbers - 1) required then status.TooFew else status.Success

-- how a run ends that gave this answer, where an order has to have this number of transactions
abbrev pub answer_status : ℕ → Answer → Status
answer_status required (answer.Commit c) = order_status required (length c.order)
answer_status required (answer.Anomaly a) = status.Anomaly

-- how a run ends whose last answer this is; `None` is for read faults
abbrev pub last_status : ℕ → Option Answer → Status
last_status required None = status.ReadFaults
last_status required (Some a) = answer_status required a

-- how a run ends that gave this verdict, whatever the rules are
abbrev pub verdict_status : {R : Type 0} → Verdict R → Status
verdict_status verdict.Accepted = status.Success
verdict_status (verdict.Rejected rule at) = status.Rejected

-- how a run ends that was ended by a fault in the text of a certificate
abbrev pub certificate_status : CertFaultKind → Status
certificate_status kind = (certificate_told kind).status

-- how a run ends that has no answer or no verdict
abbrev pub run_error_status : RunError → Status
run_error_status (error.Row fault) = row_status fault.kind
run_error_status (error.Reads faults) = status.ReadFaults
run_error_status (error.Text fault) = certificate_status fault.kind
run_error_status error.NoMemory = status.Memory

-- how a run of check ends with this outcome
abbrev pub check_status : Result Judgement RunError → Status
check_status (Ok judged) = verdict_status judged.verdict
check_status (Err why) = run_error_status why
