-- What a first answer claims keeps all rules, where one's own orders and cycles do.
use Rattle.std.proofs.Common.{◌≡◌, ◌≤◌, ℕ, List, Option, None, Some, inl, inr, sym, ap, subst}
use Rattle.tcc_reads.specs.History.{History}
use Rattle.tcc_graph.specs.Answers as first
use Rattle.tcc_graph.specs.Levels.{judged}
use Rattle.tcc_graph.specs.Links.{cost}
use Rattle.tcc_graph.specs.Orders.{IsCommitOrder}
use Rattle.tcc_graph.specs.Routes.{IsCycle, IsLeastCycle}
use Rattle.tcc_graph.specs.declared.level.Level.{Level}
use Rattle.tcc_graph.specs.declared.link.Link.{Link}
use Rattle.tcc_cert.specs.LargeTexts.{large_certificate_text}
use Rattle.tcc_cert.specs.RunsTold.{order_claim_of}
use Rattle.tcc_cert.specs.declared.large.LargeCertificate.{LargeCertificate}
use Rattle.tcc_cert.specs.declared.large.Run.{Run}
use Rattle.tcc_rules.specs.Asked.{AllHold}
use Rattle.tcc_judge.specs.Claims.{cycle_claim_of, links_claim_of, short_claim_of}
use Rattle.tcc_judge.specs.Verdicts.{cycle_rules, order_rules, rules_of}
use Rattle.tcc_print.specs.Courses.{Said}
use Rattle.tcc_print.specs.declared.options.Options.{Options}
use Rattle.tcc_run.specs.LargeRuns.{IsClaimOf, IsClaimedOf, IsLeastClaimed}

module _ (h : History)
    (by_order : (level : Level) (order : List ℕ) → IsCommitOrder (judged h level) order → AllHold (order_rules h (order_claim_of level h order)))
    (by_cycle : (g : History) (level : Level) (s : ℕ) (links : List Link) → IsCycle (judged g level) s links → AllHold (cycle_rules g (cycle_claim_of level g links)))
    (by_short : (g : History) (level : Level) (s : ℕ) (links : List Link) → IsLeastCycle (judged g level) s links → cost links ≤ 4
    → AllHold (cycle_rules g (short_claim_of level g links))) where
  least_keeps : (level : Level) (s : ℕ) (links : List Link) (least : Option (List Run)) → IsLeastCycle (judged h level) s links
      → IsLeastClaimed level h links least → AllHold (cycle_rules h (links_claim_of level h links least))
  least_keeps level s links None is long = by_cycle h level s links is.cycle
  least_keeps level s links (Some runs) is (inl (few, none)) =
      subst (λ (rs : List Run). AllHold (cycle_rules h (links_claim_of level h links (Some rs)))) (sym none) (by_short h level s links is few)
  least_keeps level s links (Some runs) is (inr (long, keeps)) = keeps

  answer_keeps : (level : Level) (a : first.Answer) (claim : LargeCertificate) → first.IsFirstAnswer (judged h level) a → IsClaimOf level h a claim
      → AllHold (rules_of h claim)
  answer_keeps level (first.Order order) claim is same =
      subst (λ (k : LargeCertificate). AllHold (rules_of h k)) (sym same) (by_order level order is.1.commit)
  answer_keeps level (first.Cycle s links) claim is (least, says, same) =
      subst (λ (k : LargeCertificate). AllHold (rules_of h k)) (sym same) (least_keeps level s links least is.least says)

  pub claim_keeps : (options : Options) (claim : LargeCertificate) (said : Said) → IsClaimedOf options h claim said → AllHold (rules_of h claim)
  claim_keeps options claim said (a, is, says, same) = answer_keeps options.level a claim is says

-- and what was said has it as its certificate
pub claim_said : (options : Options) (h : History) (claim : LargeCertificate) (said : Said) → IsClaimedOf options h claim said
    → said.certificate ≡ Some (large_certificate_text claim)
claim_said options h claim said (a, is, says, same) = ap (λ (one : Said). one.certificate) same
