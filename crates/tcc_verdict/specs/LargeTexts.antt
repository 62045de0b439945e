-- What is printed of a certificate of any version, and how the run then ends.
use Rattle.std.specs.Prelude.{ℕ, true, false, List, ◌++◌, Result, Ok, Err, codes, decimal}
use Rattle.tcc_rules.specs.declared.judgement.Claim.TheVariants as claim
use Rattle.tcc_judge.specs.Verdicts.{rule_number}
use Rattle.tcc_judge.specs.declared.verdict.LargeRule.{LargeRule}
use Rattle.tcc_rules.specs.declared.verdict.Verdict.{Verdict}
use Rattle.tcc_rules.specs.declared.verdict.Verdict.TheVariants as verdict
use Rattle.tcc_print.specs.Statuses.{run_error_status, verdict_status}
use Rattle.tcc_print.specs.Texts.{accepted_text, run_error_text, rejected_text, verdict_text}
use Rattle.tcc_print.specs.declared.run_error.RunError.{RunError}
use Rattle.tcc_print.specs.declared.status.Status.{Status}
use Rattle.tcc_verdict.specs.declared.large.judgement.LargeClaim.{LargeClaim}
use Rattle.tcc_verdict.specs.declared.large.judgement.LargeClaim.TheVariants.{Order, Cycle}
use Rattle.tcc_verdict.specs.declared.large.judgement.LargeJudgement.{LargeJudgement}
use Rattle.tcc_verdict.specs.declared.large.judgement.LargeJudgement.TheVariants.{Small, Large}

-- a claim that versions 1 and 2 have too is printed as theirs is; else accepted: cycle, L steps, least not claimed
abbrev pub large_accepted_text : LargeClaim → List ℕ
large_accepted_text Order = accepted_text claim.Order
large_accepted_text (Cycle cost true) = accepted_text (claim.Cycle cost)
large_accepted_text (Cycle cost false) = codes "accepted: cycle, " ++ (decimal cost ++ codes " steps, least not claimed\n")

-- the line of a claim and the verdict on it
abbrev pub large_line : LargeClaim → Verdict LargeRule → List ℕ
large_line k verdict.Accepted = large_accepted_text k
large_line k (verdict.Rejected rule at) = rejected_text (rule_number rule) at

abbrev pub large_verdict_text : LargeJudgement → List ℕ
large_verdict_text (Small judged) = verdict_text judged.claim judged.verdict
large_verdict_text (Large k v) = large_line k v

-- how a run ends that gave a verdict
abbrev pub large_status : LargeJudgement → Status
large_status (Small judged) = verdict_status judged.verdict
large_status (Large k v) = verdict_status v

-- what a run of check --large prints, and how it ends
abbrev pub large_check_text : Result LargeJudgement RunError → List ℕ
large_check_text (Ok judged) = large_verdict_text judged
large_check_text (Err why) = run_error_text why

abbrev pub large_check_status : Result LargeJudgement RunError → Status
large_check_status (Ok judged) = large_status judged
large_check_status (Err why) = run_error_status why
