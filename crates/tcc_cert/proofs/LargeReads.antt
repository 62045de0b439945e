-- What is returned for a whole text of version 3.
use Rattle.std.proofs.Common.{◌≡◌, ℕ, List, [], Ok, Err, inl, inr, refl, arith, ap}
use Rattle.tcc_cert.specs.declared.fault.CertFault.{CertFault}
use Rattle.tcc_cert.specs.declared.fault.CertFaultKind.{CertFaultKind}
use Rattle.tcc_cert.specs.declared.large.LargeCertificate.{LargeCertificate}
use Rattle.tcc_cert.specs.declared.reading.input.Input.{Input}
use Rattle.tcc_cert.specs.Outcomes.{IsFailure, IsLargeReading, reached}
use Rattle.tcc_cert.specs.private.Inputs.{Ends}
use Rattle.tcc_cert.specs.private.Showing.{Faults}
use Rattle.tcc_cert.specs.Reading.{Position, start_of}
use Rattle.tcc_cert.specs.LargeReading.{large_certificate_at, large_certificate_read}
use Rattle.tcc_cert.proofs.LargeOnward.{onward-certificate}
use Rattle.tcc_cert.proofs.StepFacts.{onward-at, some-left}

-- a failure of a reader that is out of sight
failure : {F : Type 0} (kind : CertFaultKind) → IsFailure F kind → IsFailure (Unit {0}) kind
failure kind (inl (is, failed)) = inl (is, tt)
failure kind (inr refused) = inr refused

pub faults-read : {F : Type 0} (bytes : List ℕ) (fault : CertFault) → Faults F (start_of bytes) (large_certificate_at (start_of bytes)) fault
    → IsLargeReading bytes (Err fault)
faults-read bytes fault (inl is) = inl (rw is refl)
faults-read bytes fault (inr cut) = inr (record { failure = failure fault.kind cut.failure; first = cut.first; last = cut.last })

-- a fault after it
pub end-read : {R : Type 0} (bytes : List ℕ) (certificate : LargeCertificate) (after : Position) (fault : CertFault) (new : Input R)
    → large_certificate_at (start_of bytes) ≡ Ok (certificate, after) → Ends after (Err fault) new → IsLargeReading bytes (Err fault)
end-read bytes certificate after fault new is (line, inl more) = inl (rw (is, some-left after.bytes more.1, line, more.0) refl)
end-read bytes certificate after fault new is (line, inr failed) =
    let on = onward-at (large_certificate_at (start_of bytes)) (onward-certificate (start_of bytes)) is in
    let last = ap reached is in
    inr (record { failure = inl (failed.0, tt); first = omega (arith, line, on); last = omega (arith, line, last) })

-- the whole text was read
pub whole-read : (bytes : List ℕ) (certificate : LargeCertificate) (after : Position) → large_certificate_at (start_of bytes) ≡ Ok (certificate, after)
    → after.bytes ≡ [] → large_certificate_read bytes ≡ Ok certificate
whole-read bytes certificate after is none = rw (is, none) refl
