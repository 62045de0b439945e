-- The verdict on a certificate: it is accepted, or the first rule that is broken and where it is broken first.
use Rattle.std.specs.Prelude.{ℕ, ◌≡◌, List, [], ◌∷◌}
use Rattle.tcc_reads.specs.History.{History}
use Rattle.tcc_cert.specs.CycleRules.{HasRightSizes}
use Rattle.tcc_cert.specs.CycleRules.{BreaksNearPair, BreaksNearStep, BreaksFarLink, BreaksFarStep}
use Rattle.tcc_cert.specs.CycleRules.{BreaksReturn}
use Rattle.tcc_cert.specs.OrderRules.{HasOrderSizes, KeepsPairs, BreaksAxiom}
use Rattle.tcc_cert.specs.Rules.{Certifies}
use Rattle.tcc_graph.specs.Links.{cost}
use Rattle.tcc_graph.specs.Routes.{IsLeastCycle}
use Rattle.tcc_graph.specs.Orders.{IsCommitOrder}
use Rattle.tcc_cert.specs.declared.certificate.Certificate.{Certificate}
use Rattle.tcc_cert.specs.declared.certificate.Certificate.TheVariants as claim
use Rattle.tcc_cert.specs.declared.certificate.CycleClaim.{CycleClaim}
use Rattle.tcc_cert.specs.declared.certificate.OrderClaim.{OrderClaim}
use Rattle.tcc_rules.specs.Asked.{Asked, IsFirstBroken, as_whole, at_each, of_links}
use Rattle.tcc_rules.specs.declared.verdict.Rule.{Rule}
use Rattle.tcc_rules.specs.declared.verdict.Rule.TheVariants.{Sizes, Links, NearPairs, NearSteps, FarLinks, FarSteps, Returns, Pairs, Axiom}
use Rattle.tcc_rules.specs.declared.verdict.Verdict.{Verdict}
use Rattle.tcc_rules.specs.declared.verdict.Verdict.TheVariants as verdict
use Rattle.tcc_graph.specs.Levels.{judged}

-- the rules on the tables of a claim that a cycle is least, in order
abbrev pub bounds_rules : History → CycleClaim → List (Asked Rule)
bounds_rules h k =
    at_each NearPairs (BreaksNearPair h k.near)
    ∷ at_each NearSteps (BreaksNearStep h k.level k.near)
    ∷ at_each FarLinks (BreaksFarLink h k.version k.near k.far)
    ∷ at_each FarSteps (BreaksFarStep h k.version k.near k.far)
    ∷ at_each Returns (BreaksReturn h k.version k.least k.far)
    ∷ []

-- all rules for a claim that a cycle is least, in order
abbrev pub cycle_rules : History → CycleClaim → List (Asked Rule)
cycle_rules h k =
    as_whole Sizes (HasRightSizes h k)
    ∷ of_links Links (judged h k.level) k.least k.links
    ∷ bounds_rules h k

-- all rules for a claim that a list is a commit order, in order
abbrev pub order_rules : History → OrderClaim → List (Asked Rule)
order_rules h k =
    as_whole Sizes (HasOrderSizes h k)
    ∷ as_whole Pairs (KeepsPairs h k)
    ∷ at_each Axiom (BreaksAxiom h k)
    ∷ []

-- those for the claim of a certificate, at its level
abbrev pub rules_of : History → Certificate → List (Asked Rule)
rules_of h (claim.Order k) = order_rules h k
rules_of h (claim.Cycle k) = cycle_rules h k

-- accepted exactly where the certificate certifies its claim, else the first broken rule
abbrev pub IsVerdict : History → Certificate → Verdict Rule → Type 0
IsVerdict h k verdict.Accepted = Certifies h k
IsVerdict h k (verdict.Rejected rule at) = IsFirstBroken (rules_of h k) rule at

-- the certificate is rejected by this rule, there
abbrev pub IsRejected : History → Certificate → Rule → ℕ × ℕ → Type 0
IsRejected h k rule at = IsVerdict h k (verdict.Rejected rule at)

-- what the certificate claims is true at its level
abbrev pub IsTrueClaim : History → Certificate → Type 0
IsTrueClaim h (claim.Order k) = IsCommitOrder (judged h k.level) k.order
IsTrueClaim h (claim.Cycle k) = ((s : ℕ) × IsLeastCycle (judged h k.level) s k.links) × (cost k.links ≡ k.least)
