-- The reader of a text, by its first line.
use Rattle.std.specs.Prelude.{ℕ, true, false, ◌≡◌, ◌⊎◌, List, Option, Result, Ok, Err}
use Rattle.tcc_cert.specs.declared.fault.CertFault.{CertFault}
use Rattle.tcc_cert.specs.declared.ranges.TheConstants.{MAX_HEADER_BYTES}
use Rattle.tcc_cert.specs.declared.reading.large_reader.LargeReader.{LargeReader}
use Rattle.tcc_cert.specs.declared.reading.versions.VersionReader.{VersionReader}
use Rattle.tcc_cert.specs.declared.reading.versions.VersionReader.TheVariants as version
use Rattle.tcc_cert.specs.InputBytes.{HasFailed, IsAt}
use Rattle.tcc_cert.specs.Ahead.{IsAhead, ReaderFailed, is_new}
use Rattle.tcc_cert.specs.LargeReading.{is_large}
use Rattle.tcc_cert.specs.Outcomes.{IsFailure}
use Rattle.tcc_cert.specs.Parts.{parts_read}
use Rattle.tcc_cert.specs.Reading.{line_of, start_of}

-- all of these bytes are still to come
abbrev pub IsLargeAt : {R : Type 0} → (R → Option (List ℕ)) → LargeReader R → List ℕ → Type 0
IsLargeAt remaining reader bytes = IsAt remaining reader.input (start_of bytes)

-- the bytes have no first line, with this fault, or the reader failed
pub record HasNoFirstLine (bytes : List ℕ) (fault : CertFault) : Type 0 where
  pub kind : (line_of MAX_HEADER_BYTES bytes ≡ Err fault.kind) ⊎ IsFailure (Unit {0}) fault.kind
  pub line : fault.line ≡ 1

-- the reader of the version that the first line says, with all of the bytes still to come
abbrev pub IsReaderOf : {R : Type 0} → (R → Option (List ℕ)) → List ℕ → Result (VersionReader R) CertFault → Type 0
IsReaderOf remaining bytes (Ok (version.Parts reader)) = (is_large bytes ≡ false) × IsAhead remaining reader (parts_read bytes)
IsReaderOf remaining bytes (Ok (version.Large reader)) = (is_large bytes ≡ true) × IsLargeAt remaining reader bytes
IsReaderOf remaining bytes (Err fault) = HasNoFirstLine bytes fault

-- whatever is known of the bytes: nothing was asked for yet, and no read of the reader has failed
abbrev pub IsUntouched : {R : Type 0} → VersionReader R → Type 0
IsUntouched (version.Parts reader) = (is_new reader ≡ true) × (ReaderFailed reader → ⊥)
IsUntouched (version.Large reader) = HasFailed reader.input → ⊥
