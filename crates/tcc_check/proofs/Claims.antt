-- A certified claim is true, a certificate is certified exactly where all its rules hold, and a rejected one is not.
use Rattle.std.proofs.Common.{ℕ}
use Rattle.tcc_reads.specs.History.{History}
use Rattle.tcc_graph.specs.Levels.{judged}
use Rattle.tcc_cert.specs.Rules.{Certifies}
use Rattle.tcc_cert.specs.declared.certificate.Certificate.{Certificate}
use Rattle.tcc_cert.specs.declared.certificate.Certificate.TheVariants as claim
use Rattle.tcc_rules.specs.declared.verdict.Rule.{Rule}
use Rattle.tcc_rules.specs.declared.verdict.Verdict.{Verdict}
use Rattle.tcc_rules.specs.declared.verdict.Verdict.TheVariants as verdict
use Rattle.tcc_check.specs.Verdicts.{IsVerdict, IsRejected, IsTrueClaim, rules_of}
use Rattle.tcc_rules.specs.Asked.{AllHold, IsVerdictOf}
use Rattle.tcc_rules.proofs.Asked.{AreApart, links_apart, not_broken}
use Rattle.tcc_check.proofs.CertifiedCycle.{least_cycle}
use Rattle.tcc_check.proofs.CertifiedOrder.{commit_order}

pub true_claim : (h : History) (k : Certificate) → Certifies h k → IsTrueClaim h k
true_claim h (claim.Order k) good = commit_order h k good
true_claim h (claim.Cycle k) good = least_cycle h k good

-- ---- the rules in a list, and as one record

pub all_hold : (h : History) (k : Certificate) → Certifies h k → AllHold (rules_of h k)
all_hold h (claim.Order k) good = (good.sizes, (good.pairs, (good.axiom_of, tt)))
all_hold h (claim.Cycle k) good =
    (good.sizes, (good.cycle, (good.near_pairs, (good.near_steps, (good.far_links, (good.far_steps, (good.returns, tt)))))))

pub certified_by : (h : History) (k : Certificate) → AllHold (rules_of h k) → Certifies h k
certified_by h (claim.Order k) all = record { sizes = all.0; pairs = all.1.0; axiom_of = all.1.1.0 }
certified_by h (claim.Cycle k) all = record {
  sizes = all.0;
  cycle = all.1.0;
  near_pairs = all.1.1.0;
  near_steps = all.1.1.1.0;
  far_links = all.1.1.1.1.0;
  far_steps = all.1.1.1.1.1.0;
  returns = all.1.1.1.1.1.1.0;
}

-- the result of the rules is the verdict
pub verdict_of : (h : History) (k : Certificate) (answer : Verdict Rule) → IsVerdictOf (rules_of h k) answer → IsVerdict h k answer
verdict_of h k verdict.Accepted said = certified_by h k said
verdict_of h k (verdict.Rejected rule at) said = said

-- ---- a rule that is broken does not hold

apart : (h : History) (k : Certificate) → AreApart (rules_of h k)
apart h (claim.Order k) = (λ at b. b.1, (λ at b. b.1, (λ at b holds. holds at b.here, tt)))
apart h (claim.Cycle k) = (
  λ at b. b.1,
  (
    links_apart (judged h k.level) k.least k.links,
    (
      λ at b holds. holds at b.here,
      (λ at b holds. holds at b.here, (λ at b holds. holds at b.here, (λ at b holds. holds at b.here, (λ at b holds. holds at b.here, tt)))),
    ),
  ),
)

pub rejected_false : (h : History) (k : Certificate) (rule : Rule) (at : ℕ × ℕ) → IsRejected h k rule at → Certifies h k → ⊥
rejected_false h k rule at broken good = not_broken (rules_of h k) (apart h k) (all_hold h k good) rule at broken
