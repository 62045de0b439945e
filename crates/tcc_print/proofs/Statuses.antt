-- The numbers that runs end with.
use Rattle.std.proofs.Common.{ℕ, ◌≢◌, ◌-◌, Bool, true, false, length, nat_lt, ap, arith}
use Rattle.std.specs.Prelude.{if◌then◌else◌}
use Rattle.tcc_answer.specs.declared.answer.Answer.{Answer}
use Rattle.tcc_answer.specs.declared.answer.Answer.TheVariants as answer
use Rattle.tcc_print.specs.Statuses.{answer_status, code_of}
use Rattle.tcc_print.specs.declared.status.Status.TheVariants.{ReadFaults, Success, TooFew}

-- no answer ends a run as read faults do
pub answer_apart : (required : ℕ) (a : Answer) → answer_status required a ≢ ReadFaults
answer_apart required (answer.Anomaly a) same = absurd (omega (arith, ap code_of same))
answer_apart required (answer.Commit c) same = by (nat_lt (length c.order - 1) required) same
  where
    by : (few : Bool) → (if few then TooFew else Success) ≢ ReadFaults
    by true e = absurd (omega (arith, ap code_of e))
    by false e = absurd (omega (arith, ap code_of e))
