-- A run that ends with success shows that the claim is true.
use Rattle.std.proofs.Common.{◌≡◌, ℕ, List, Option, Ok, inl, inr, refl}
use Rattle.tcc_txn.specs.Snapshots.{Sessions}
use Rattle.tcc_rows.specs.Answers.{answers_within}
use Rattle.tcc_rows.specs.Items.{finished_in}
use Rattle.tcc_txn.specs.declared.limits.Limits.TheVariants as limits
use Rattle.tcc_reads.specs.History.{History}
use Rattle.tcc_reads.specs.Sources.{history}
use Rattle.tcc_cert.specs.Rules.{Certifies}
use Rattle.tcc_cert.specs.declared.certificate.Certificate.{Certificate}
use Rattle.tcc_cert.specs.declared.large.LargeCertificate.{LargeCertificate}
use Rattle.tcc_rules.specs.Asked.{AllHold, IsVerdictOf}
use Rattle.tcc_check.specs.Verdicts.{IsTrueClaim}
use Rattle.tcc_rules.specs.declared.verdict.Rule.{Rule}
use Rattle.tcc_rules.specs.declared.verdict.Verdict.{Verdict}
use Rattle.tcc_rules.specs.declared.verdict.Verdict.TheVariants as verdict
use Rattle.tcc_judge.specs.Verdicts.{rules_of}
use Rattle.tcc_judge.specs.declared.verdict.LargeRule.{LargeRule}
use Rattle.tcc_print.specs.Statuses.{code_of, verdict_status}
use Rattle.tcc_verdict.specs.Checking.{IsCheckRunBy}
use Rattle.tcc_verdict.specs.private.Stages.{TellsRunErrors}
use Rattle.tcc_verdict.proofs.Shown.{Succeeds, run_succeeds}
use Rattle.tcc_verdict.specs.LargeChecks.{IsLargeShown, IsLargeTextCheck, IsTrueLargeClaim, IsTrueText, IsVerdictFor, large_check}
use Rattle.tcc_verdict.specs.LargeTexts.{large_status}
use Rattle.tcc_verdict.specs.declared.large.judgement.LargeJudgement.{LargeJudgement}
use Rattle.tcc_verdict.specs.declared.large.judgement.LargeJudgement.TheVariants.{Small, Large}

pub large_tells : TellsRunErrors large_check
large_tells = record { text = λ why. refl; status = λ why. refl }

module _ (certified : (h : History) (k : Certificate) → Certifies h k → IsTrueClaim h k)
    (accepted : (s : Sessions) (k : LargeCertificate) → AllHold (rules_of (history s) k) → IsTrueLargeClaim (history s) k) (s : Sessions) where
  small_true : (c : Certificate) (v : Verdict Rule) → IsVerdictFor s c v → code_of (verdict_status v) ≡ 0 → IsTrueClaim (history s) c
  small_true c verdict.Accepted (inl is) success = certified (history s) c is.1
  small_true c verdict.Accepted (inr past) success = let e = past.1 in let bad : ⊥ = cc in absurd bad
  small_true c (verdict.Rejected rule at) is success = let bad : ⊥ = cc in absurd bad

  large_true : (c : LargeCertificate) (v : Verdict LargeRule) → IsVerdictOf (rules_of (history s) c) v → code_of (verdict_status v) ≡ 0
      → IsTrueLargeClaim (history s) c
  large_true c verdict.Accepted is success = accepted s c is
  large_true c (verdict.Rejected rule at) is success = let bad : ⊥ = cc in absurd bad

  -- what a judgement that ends with success is about is true
  text_true : (text : List ℕ) (j : LargeJudgement) → IsLargeTextCheck s text (Ok j) → code_of (large_status j) ≡ 0 → IsTrueText (history s) text
  text_true text (Small j) is success = inl (is.1, is.2, small_true is.1 j.verdict is.4 success)
  text_true text (Large said v) is success = inr (is.1, is.2, large_true is.1 v is.4 success)

module _ (certified : (h : History) (k : Certificate) → Certifies h k → IsTrueClaim h k)
    (accepted : (s : Sessions) (k : LargeCertificate) → AllHold (rules_of (history s) k) → IsTrueLargeClaim (history s) k) where
  shown_by : (records text : List ℕ) → Succeeds large_check records text → IsLargeShown records text
  shown_by records text is = record {
    unfaulted = is.unfaulted;
    resolved = is.resolved;
    true_claim = text_true certified accepted (finished_in (answers_within limits.Large records).items) text is.judged is.of_text is.success;
  }

  pub shown : (records text : List ℕ) (before after : Option (List ℕ)) (code : ℕ) → IsCheckRunBy large_check records text before after code
      → code ≡ 0 → IsLargeShown records text
  shown records text before after code run zero = shown_by records text (run_succeeds large_check records text large_tells before after code run zero)
