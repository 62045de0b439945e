-- What is read of a text of version 3 whose links are taken one by one.
use Rattle.std.specs.Prelude.{ℕ, ◌≡◌, List, Result, Ok, Err}
use Rattle.tcc_graph.specs.declared.link.Link.{Link}
use Rattle.tcc_cert.specs.declared.fault.CertFault.{CertFault}
use Rattle.tcc_cert.specs.declared.large.LargeCertificate.{LargeCertificate}
use Rattle.tcc_cert.specs.declared.large.LargeCertificate.TheVariants as claim
use Rattle.tcc_cert.specs.declared.large.LargeHead.{LargeHead}
use Rattle.tcc_cert.specs.declared.large.LargeHead.TheVariants as head
use Rattle.tcc_cert.specs.declared.large.LinksClaim.{LinksClaim}
use Rattle.tcc_cert.specs.declared.large.LinksHead.{LinksHead}
use Rattle.tcc_cert.specs.declared.large.LinksSizes.{LinksSizes}
use Rattle.tcc_cert.specs.LargeReading.{large_certificate_read}
use Rattle.tcc_cert.specs.Outcomes.{IsLargeReading}

-- a claim of a cycle with its links
abbrev pub with_links : LinksHead → List Link → LinksClaim
with_links k links = record { level = k.sizes.level; transactions = k.sizes.transactions; links = links; cost = k.sizes.cost; least = k.least }

-- a certificate is this claim, with links that were taken, as many as its sizes say
abbrev pub IsClaimTaken : (LinksSizes → List Link → Type 0) → LargeCertificate → LargeHead → Type 0
IsClaimTaken took certificate (head.Order k) = certificate ≡ claim.Order k
IsClaimTaken took certificate (head.Cycle k) = (links : List Link) × took k.sizes links × (certificate ≡ claim.Cycle (with_links k links))

-- A claim: the bytes are the text of a certificate that is this claim with links that were taken. A fault: it is their first, unless the
-- reader failed or memory was refused.
abbrev pub IsLargeTaken : List ℕ → (LinksSizes → List Link → Type 0) → Result LargeHead CertFault → Type 0
IsLargeTaken bytes took (Ok k) =
    (certificate : LargeCertificate) × (large_certificate_read bytes ≡ Ok certificate) × IsClaimTaken took certificate k
IsLargeTaken bytes took (Err fault) = IsLargeReading bytes (Err fault)
