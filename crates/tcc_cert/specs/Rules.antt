-- What a certificate has to keep.
use Rattle.std.specs.Prelude.{ℕ}
use Rattle.tcc_reads.specs.History.{History}
use Rattle.tcc_cert.specs.CycleRules.{AreLinksRight, HasRightSizes}
use Rattle.tcc_cert.specs.CycleRules.{BreaksNearPair, BreaksNearStep, BreaksFarLink, BreaksFarStep}
use Rattle.tcc_cert.specs.CycleRules.{BreaksReturn}
use Rattle.tcc_cert.specs.OrderRules.{HasOrderSizes, KeepsPairs, BreaksAxiom}
use Rattle.tcc_cert.specs.declared.certificate.Certificate.{Certificate}
use Rattle.tcc_cert.specs.declared.certificate.Certificate.TheVariants as claim
use Rattle.tcc_cert.specs.declared.certificate.CycleClaim.{CycleClaim}
use Rattle.tcc_cert.specs.declared.certificate.OrderClaim.{OrderClaim}
use Rattle.tcc_graph.specs.Levels.{judged}

-- it is broken nowhere
abbrev pub HoldsEverywhere : (ℕ × ℕ → Type 0) → Type 0
HoldsEverywhere broken = (at : ℕ × ℕ) → broken at → ⊥

-- the links, one at least, are a cycle of the cost that is claimed
abbrev pub IsRightCycle : History → CycleClaim → Type 0
IsRightCycle h k = AreLinksRight (judged h k.level) k.least k.links

-- the claim that a cycle is least is certified
pub record CertifiesCycle (h : History) (k : CycleClaim) : Type 0 where
  pub sizes : HasRightSizes h k
  pub cycle : IsRightCycle h k
  pub near_pairs : HoldsEverywhere (BreaksNearPair h k.near)
  pub near_steps : HoldsEverywhere (BreaksNearStep h k.level k.near)
  pub far_links : HoldsEverywhere (BreaksFarLink h k.version k.near k.far)
  pub far_steps : HoldsEverywhere (BreaksFarStep h k.version k.near k.far)
  pub returns : HoldsEverywhere (BreaksReturn h k.version k.least k.far)

-- the claim that a list is a commit order is certified
pub record CertifiesOrder (h : History) (k : OrderClaim) : Type 0 where
  pub sizes : HasOrderSizes h k
  pub pairs : KeepsPairs h k
  pub axiom_of : HoldsEverywhere (BreaksAxiom h k)

-- the certificate certifies what it claims
abbrev pub Certifies : History → Certificate → Type 0
Certifies h (claim.Order k) = CertifiesOrder h k
Certifies h (claim.Cycle k) = CertifiesCycle h k
