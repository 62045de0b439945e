-- The result of the rules is the verdict.
use Rattle.std.proofs.Common.{Result, Ok, Err}
use Rattle.std.specs.Prelude.{IfOk}
use Rattle.tcc_reads.specs.History.{History}
use Rattle.tcc_cert.specs.declared.certificate.Certificate.{Certificate}
use Rattle.tcc_cert.specs.declared.certificate.Certificate.TheVariants as claim
use Rattle.tcc_rules.specs.declared.verdict.Rule.{Rule}
use Rattle.tcc_rules.specs.declared.verdict.Verdict.{Verdict}
use Rattle.tcc_check.specs.Verdicts.{IsVerdict, rules_of}
use Rattle.tcc_rules.specs.Asked.{IsVerdictOf}
use Rattle.tcc_check.proofs.Claims.{verdict_of}
use Rattle.tcc_check.proofs.checking.check.Goals as goal

judged : {E : Type 0} (h : History) (k : Certificate) (result : Result (Verdict Rule) E) → IfOk result (IsVerdictOf (rules_of h k)) → IfOk result (IsVerdict h k)
judged h k (Ok answer) said = verdict_of h k answer said
judged h k (Err e) said = said

pub returns-in-Order : goal.returns-in-Order
returns-in-Order c =
    rw c.in-Order.is (judged c.args.graph.now (claim.Order c.in-Order.claim) c.order_verdict.result (rw c.deref.ensures.value at c.order_verdict.ensures))

pub returns-in-Cycle : goal.returns-in-Cycle
returns-in-Cycle c =
    rw c.in-Cycle.is (judged c.args.graph.now (claim.Cycle c.in-Cycle.claim) c.cycle_verdict.result (rw c.deref-in-Cycle.ensures.value at c.cycle_verdict.ensures))
