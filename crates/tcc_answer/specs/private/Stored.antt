-- How an order with its certificate lies in memory.
use Rattle.std.specs.Prelude.{◌≡◌, []}
use Rattle.tcc_cert.specs.declared.version.Version.TheVariants.{Two}
use Rattle.tcc_cert.specs.declared.certificate.Certificate.{Certificate}
use Rattle.tcc_cert.specs.declared.certificate.Certificate.TheVariants as claim
use Rattle.tcc_cert.specs.declared.certificate.OrderClaim.{OrderClaim}

-- the claim of an order in a certificate; an empty one in a certificate of another kind
abbrev pub order_in : Certificate → OrderClaim
order_in (claim.Order k) = k
order_in (claim.Cycle k) = record { version = Two; level = k.level; order = []; sessions = 0; clocks = [] }

-- the claim is that of an order, in version 2
abbrev pub ClaimsOrder : Certificate → Type 0
ClaimsOrder (claim.Order k) = k.version ≡ Two
ClaimsOrder (claim.Cycle k) = ⊥
