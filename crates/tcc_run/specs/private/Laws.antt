-- What the laws of the checks say.
use Rattle.std.specs.Prelude.{ℕ, ◌≡◌, ◌≤◌, List, Ok}
use Rattle.tcc_txn.specs.Snapshots.{Sessions}
use Rattle.tcc_reads.specs.History.{History}
use Rattle.tcc_reads.specs.Sources.{history}
use Rattle.tcc_graph.specs.Levels.{judged}
use Rattle.tcc_graph.specs.Links.{cost}
use Rattle.tcc_graph.specs.Routes.{IsCycle, IsLeastCycle}
use Rattle.tcc_graph.specs.declared.level.Level.{Level}
use Rattle.tcc_graph.specs.declared.link.Link.{Link}
use Rattle.tcc_cert.specs.LargeReading.{large_certificate_read}
use Rattle.tcc_cert.specs.LargeTexts.{HasLargeText, large_certificate_text}
use Rattle.tcc_cert.specs.Rules.{Certifies}
use Rattle.tcc_cert.specs.declared.certificate.Certificate.{Certificate}
use Rattle.tcc_cert.specs.declared.large.LargeCertificate.{LargeCertificate}
use Rattle.tcc_rules.specs.Asked.{AllHold, IsVerdictOf}
use Rattle.tcc_check.specs.Verdicts.{IsTrueClaim}
use Rattle.tcc_rules.specs.declared.verdict.Verdict.{Verdict}
use Rattle.tcc_rules.specs.declared.verdict.Verdict.TheVariants as verdict
use Rattle.tcc_judge.specs.Claims.{cycle_claim_of, short_claim_of}
use Rattle.tcc_judge.specs.Verdicts.{cycle_rules, rules_of}
use Rattle.tcc_judge.specs.declared.verdict.LargeRule.{LargeRule}
use Rattle.tcc_verdict.specs.LargeChecks.{IsTrueLargeClaim}

pub record Laws : Type 0 where
  pub true_small : (h : History) (k : Certificate) → Certifies h k → IsTrueClaim h k
  pub true_large : (s : Sessions) (k : LargeCertificate) → AllHold (rules_of (history s) k) → IsTrueLargeClaim (history s) k
  pub back : (k : LargeCertificate) → HasLargeText k → large_certificate_read (large_certificate_text k) ≡ Ok k
  pub kept : (h : History) (k : LargeCertificate) → AllHold (rules_of h k) → (said : Verdict LargeRule) → IsVerdictOf (rules_of h k) said → said ≡ verdict.Accepted
  pub cycle : (h : History) (level : Level) (s : ℕ) (links : List Link) → IsCycle (judged h level) s links
      → AllHold (cycle_rules h (cycle_claim_of level h links))
  pub short : (h : History) (level : Level) (s : ℕ) (links : List Link) → IsLeastCycle (judged h level) s links → cost links ≤ 4
      → AllHold (cycle_rules h (short_claim_of level h links))
