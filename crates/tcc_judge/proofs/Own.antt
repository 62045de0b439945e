-- One's own claims keep the rules, and what keeps the rules is accepted.
use Rattle.std.proofs.Common.{◌≡◌, ◌≤◌, inl, inr, ℕ, Option, None, Some, List, [], refl, arith}
use Rattle.tcc_reads.specs.History.{History}
use Rattle.tcc_graph.specs.Levels.{judged}
use Rattle.tcc_graph.specs.Links.{cost}
use Rattle.tcc_graph.specs.Routes.{IsCycle, IsLeastCycle}
use Rattle.tcc_graph.specs.declared.level.Level.{Level}
use Rattle.tcc_graph.specs.declared.link.Link.{Link}
use Rattle.tcc_cert.specs.Tables.{IsFirstAt}
use Rattle.tcc_cert.specs.declared.large.LargeCertificate.{LargeCertificate}
use Rattle.tcc_cert.specs.declared.large.LargeCertificate.TheVariants as certificate
use Rattle.tcc_cert.specs.declared.large.Run.{Run}
use Rattle.tcc_cert.proofs.OwnLinks.{cycle_right, links_within}
use Rattle.tcc_least.proofs.Shapes.{below_none}
use Rattle.tcc_judge.specs.Claims.{links_claim_of, cycle_claim_of, short_claim_of}
use Rattle.tcc_judge.specs.Cycles.{IsRightCycle, BreaksOnward, BreaksRound, BreaksReturn}
use Rattle.tcc_judge.specs.Verdicts.{cycle_rules, least_rules_of, rules_of}
use Rattle.tcc_judge.specs.declared.verdict.LargeRule.{LargeRule}
use Rattle.tcc_rules.specs.declared.verdict.Verdict.{Verdict}
use Rattle.tcc_rules.specs.Asked.{AllHold, IsVerdictOf}
use Rattle.tcc_rules.proofs.Asked.{AreApart, accepted_by, links_apart}
use Rattle.tcc_rules.specs.declared.verdict.Verdict.TheVariants as verdict

-- ---- what keeps the rules is accepted
first_apart : (broken : ℕ × ℕ → Type 0) (at : ℕ × ℕ) → IsFirstAt broken at → ((where_ : ℕ × ℕ) → broken where_ → ⊥) → ⊥
first_apart broken at first none = none at first.here

least_apart : (h : History) (level : Level) (most : ℕ) (least : Option (List Run)) → AreApart (least_rules_of h level most least)
least_apart h level most None = tt
least_apart h level most (Some runs) = (
  first_apart (BreaksRound h most),
  (first_apart (BreaksReturn h most), (first_apart (BreaksOnward h most runs), ((λ at broken. broken.1), ((λ at broken. broken.1), tt)))),
)

rules_apart : (h : History) (claim : LargeCertificate) → AreApart (rules_of h claim)
rules_apart h (certificate.Order k) = ((λ at broken. broken.1), ((λ at first none. none at first.here), ((λ at first none. none at first.here), tt)))
rules_apart h (certificate.Cycle k) = ((λ at broken. broken.1), (links_apart (judged h k.level) k.cost k.links, least_apart h k.level k.cost k.least))

pub kept_accepted : (h : History) (claim : LargeCertificate) → AllHold (rules_of h claim) → (said : Verdict LargeRule) → IsVerdictOf (rules_of h claim) said
    → said ≡ verdict.Accepted
kept_accepted h claim all said is = accepted_by (rules_of h claim) (rules_apart h claim) all said is

-- ---- the links of a cycle
module _ (h : History) (level : Level) (s : ℕ) (links : List Link) where
  right_links : (least : Option (List Run)) → IsCycle (judged h level) s links → IsRightCycle h (links_claim_of level h links least)
  right_links least cycle = record { some = cycle.0; right = cycle_right (judged h level) s links cycle; costs = refl }

  pub own_cycle : IsCycle (judged h level) s links → AllHold (cycle_rules h (cycle_claim_of level h links))
  own_cycle cycle = (
    record { transactions = refl; links = links_within (judged h level) s s links cycle.1; least = tt },
    (right_links None cycle, tt),
  )

  pub own_short : IsLeastCycle (judged h level) s links → cost links ≤ 4 → AllHold (cycle_rules h (short_claim_of level h links))
  own_short least low = (
    record {
      transactions = refl;
      links = links_within (judged h level) s s links least.cycle.1;
      least = record { whole = λ more. absurd (omega arith); none = λ _. refl };
    },
    (
      right_links (Some []) least.cycle,
      (
        (λ at broken. below_none (judged h level) (cost links) (inl (at.0, at.1, broken.1)) (λ t others cycle. least.least t others cycle)),
        (
          (λ at broken. below_none (judged h level) (cost links) (inr (omega (arith, broken.0), (at.0, at.1, broken.1)))
              (λ t others cycle. least.least t others cycle)),
          ((λ at broken. absurd (omega (arith, broken.0, low))), ((λ more. absurd (omega (arith, more, low))), ((λ t others cycle. least.least t others cycle), tt))),
        ),
      ),
    ),
  )
