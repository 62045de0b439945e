-- What the rules say about a claim of a cycle, by its links.
use Rattle.std.proofs.Common.{◌≡◌, inl, inr, ℕ, Option, None, Some, List, ◌∷◌, refl, sym, subst}
use Rattle.tcc_reads.specs.History.{History}
use Rattle.tcc_graph.specs.Levels.{judged}
use Rattle.tcc_cert.specs.CycleRules.{IsLinksFault}
use Rattle.tcc_cert.specs.declared.large.LinksClaim.{LinksClaim}
use Rattle.tcc_cert.specs.declared.large.Run.{Run}
use Rattle.tcc_rules.specs.Asked.{IsVerdictOf, as_whole}
use Rattle.tcc_rules.specs.declared.verdict.Verdict.{Verdict}
use Rattle.tcc_rules.specs.declared.verdict.Verdict.TheVariants as verdict
use Rattle.tcc_rules.proofs.Asked.{answer_later}
use Rattle.tcc_judge.proofs.Leastness.{with_links}
use Rattle.tcc_judge.specs.Cycles.{HasLinksSizes, IsRightCycle}
use Rattle.tcc_judge.specs.Verdicts.{cycle_rules, least_rules, least_rules_of, links_rules}
use Rattle.tcc_judge.specs.declared.verdict.LargeRule.{LargeRule}
use Rattle.tcc_judge.specs.declared.verdict.LargeRule.TheVariants.{Sizes, Links}

module _ (h : History) (k : LinksClaim) where
  pub sizes_rejected : (HasLinksSizes h k → ⊥) → IsVerdictOf (cycle_rules h k) (verdict.Rejected Sizes (0, 0))
  sizes_rejected none = inl (refl, (refl, none))

  pub links_rejected : HasLinksSizes h k → (at : ℕ) → IsLinksFault (judged h k.level) k.cost k.links (at, 0) → IsVerdictOf (cycle_rules h k) (verdict.Rejected Links (at, 0))
  links_rejected sizes at fault = inr (sizes, inl (refl, fault))

  pub least_claimed : (runs : List Run) → k.least ≡ Some runs → HasLinksSizes h k → IsRightCycle h k → (said : Verdict LargeRule)
      → IsVerdictOf (least_rules h k.level k.cost runs) said → IsVerdictOf (cycle_rules h k) said
  least_claimed runs is sizes right said w = with_links h k runs is sizes right said w

  pub not_claimed : k.least ≡ None → HasLinksSizes h k → IsRightCycle h k → IsVerdictOf (cycle_rules h k) verdict.Accepted
  not_claimed none sizes right =
      answer_later (as_whole Sizes (HasLinksSizes h k) ∷ links_rules h k) (least_rules_of h k.level k.cost k.least) verdict.Accepted (sizes, (right, tt))
      (subst (λ (z : Option (List Run)). IsVerdictOf (least_rules_of h k.level k.cost z) verdict.Accepted) (sym none) tt)
