-- The result of reading, where a reader may fail and memory may be refused.
use Rattle.std.specs.Prelude.{ℕ, ◌≡◌, ◌≤◌, ◌⊎◌, List, Result, Ok, Err}
use Rattle.tcc_cert.specs.declared.fault.CertFault.{CertFault}
use Rattle.tcc_cert.specs.declared.fault.CertFaultKind.{CertFaultKind}
use Rattle.tcc_cert.specs.declared.fault.CertFaultKind.TheVariants.{Read, NoMemory}
use Rattle.tcc_cert.specs.declared.certificate.Certificate.{Certificate}
use Rattle.tcc_cert.specs.declared.large.LargeCertificate.{LargeCertificate}
use Rattle.tcc_cert.specs.LargeReading.{large_certificate_at, large_certificate_read}
use Rattle.tcc_cert.specs.Reading.{Position, Reads, certificate_at, certificate_read, start_of}

-- the kinds of fault of a reader that failed, if it did, and of a run that is out of memory
abbrev pub IsFailure : Type 0 → CertFaultKind → Type 0
IsFailure failed kind = ((kind ≡ Read) × failed) ⊎ (kind ≡ NoMemory)

-- the number of the line that was wanted when the reading ended
abbrev pub reached : {X : Type 0} → Reads X → ℕ
reached (Ok read) = read.1.line
reached (Err fault) = fault.line

-- the reader failed or memory was refused, no later than the line at which the reading would have ended
pub record IsCutShort {X : Type 0} (failed : Type 0) (at : Position) (read : Reads X) (fault : CertFault) : Type 0 where
  pub failure : IsFailure failed fault.kind
  pub first : at.line ≤ fault.line
  pub last : fault.line ≤ reached read

-- the certificate that the bytes are the text of, or their first fault, unless the reader failed, if it may have, or memory was refused
abbrev pub IsReadingWhere : Type 0 → List ℕ → Result Certificate CertFault → Type 0
IsReadingWhere failed bytes (Ok certificate) = certificate_read bytes ≡ Ok certificate
IsReadingWhere failed bytes (Err fault) =
    (certificate_read bytes ≡ Err fault) ⊎ IsCutShort failed (start_of bytes) (certificate_at (start_of bytes)) fault

-- the same where it is unknown whether the reader failed
abbrev pub IsReading : List ℕ → Result Certificate CertFault → Type 0
IsReading bytes result = IsReadingWhere (Unit {0}) bytes result

-- the same for a text of version 3, of any length
abbrev pub IsLargeReading : List ℕ → Result LargeCertificate CertFault → Type 0
IsLargeReading bytes (Ok certificate) = large_certificate_read bytes ≡ Ok certificate
IsLargeReading bytes (Err fault) =
    (large_certificate_read bytes ≡ Err fault) ⊎ IsCutShort (Unit {0}) (start_of bytes) (large_certificate_at (start_of bytes)) fault
