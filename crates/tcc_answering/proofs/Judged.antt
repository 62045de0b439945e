-- What the judge says of a claim that keeps all its rules.
use Rattle.std.proofs.Common.{◌≡◌, ◌∙◌, sym, ℕ}
use Rattle.tcc_reads.specs.History.{History}
use Rattle.tcc_cert.specs.declared.large.LargeCertificate.TheVariants as certificate
use Rattle.tcc_cert.specs.declared.large.LinksClaim.{LinksClaim}
use Rattle.tcc_judge.proofs.Own.{kept_accepted}
use Rattle.tcc_judge.specs.Verdicts.{cycle_rules}
use Rattle.tcc_judge.specs.declared.verdict.LargeRule.{LargeRule}
use Rattle.tcc_rules.specs.Asked.{AllHold, IsVerdictOf}
use Rattle.tcc_rules.specs.declared.verdict.Verdict.{Verdict}
use Rattle.tcc_rules.specs.declared.verdict.Verdict.TheVariants as verdict

not_both : (rule : LargeRule) (at : ℕ × ℕ) → verdict.Rejected rule at ≡ verdict.Accepted → ⊥
not_both rule at same = absurd cc

-- it isn't rejected
pub not_rejected : (h : History) (claim : LinksClaim) (said : Verdict LargeRule) (rule : LargeRule) (at : ℕ × ℕ) → said ≡ verdict.Rejected rule at
    → IsVerdictOf (cycle_rules h claim) said → AllHold (cycle_rules h claim) → ⊥
not_rejected h claim said rule at rejected is all = not_both rule at (sym rejected ∙ kept_accepted h (certificate.Cycle claim) all said is)
