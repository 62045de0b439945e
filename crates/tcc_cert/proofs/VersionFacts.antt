-- What is known of a text whose first line was looked at.
use Rattle.std.proofs.Common.{◌≡◌, ◌⊎◌, ℕ, Bool, List, Result, Ok, Err, inl, inr, refl, ap, sym, ◌∙◌, arith}
use Rattle.std.specs.Prelude.{is_ok}
use Rattle.tcc_cert.specs.declared.fault.CertFault.{CertFault}
use Rattle.tcc_cert.specs.declared.fault.CertFaultKind.{CertFaultKind}
use Rattle.tcc_cert.specs.declared.reading.input.Input.{Input}
use Rattle.tcc_cert.specs.declared.ranges.TheConstants.{MAX_HEADER_BYTES}
use Rattle.tcc_cert.specs.Outcomes.{IsFailure, IsLargeReading, IsReading}
use Rattle.tcc_cert.specs.private.Inputs.{FindsLine}
use Rattle.tcc_cert.specs.LargeReading.{is_large, large_header_line}
use Rattle.tcc_cert.specs.Reading.{line_of, start_of}
use Rattle.tcc_cert.specs.Versions.{HasNoFirstLine}
use Rattle.tcc_cert.proofs.LargeOnward.{onward-certificate}
use Rattle.tcc_cert.proofs.PartFacts.{line-reached}
use Rattle.tcc_cert.proofs.StageFacts.{onward-whole}

-- a text without a first line has that fault whatever its version
pub faulty-whole : (bytes : List ℕ) (fault : CertFault) → HasNoFirstLine bytes fault → IsReading bytes (Err fault) × IsLargeReading bytes (Err fault)
faulty-whole bytes fault none = by none.kind
  where
    same : {X : Type 0} → ◌≡◌ {A = Result X CertFault} (Err (record { line = 1; kind = fault.kind })) (Err fault)
    same {X} = ap (λ l. Err (record { line = l; kind = fault.kind })) (sym none.line)

    by : (line_of MAX_HEADER_BYTES bytes ≡ Err fault.kind) ⊎ IsFailure (Unit {0}) fault.kind → IsReading bytes (Err fault) × IsLargeReading bytes (Err fault)
    by (inl is) = (inl (rw is refl ∙ same), inl (rw is refl ∙ same))
    by (inr failure) = (
      inr (record { failure = failure; first = omega (arith, none.line); last = omega (arith, none.line, onward-whole (start_of bytes), line-reached bytes) }),
      inr (record { failure = failure; first = omega (arith, none.line); last = omega (arith, none.line, (onward-certificate (start_of bytes)).onward) }),
    )

-- the first line says it
pub named : (bytes line ahead : List ℕ) (said : Bool) → line_of MAX_HEADER_BYTES bytes ≡ Ok line → ahead ≡ line → is_ok (large_header_line ahead) ≡ said
    → is_large bytes ≡ said
named bytes line ahead said is same e = rw (is, ← same) e

-- there is none
pub none-there : {R : Type 0} (bytes : List ℕ) (kind : CertFaultKind) (new : Input R) (line : ℕ) → line ≡ 1
    → FindsLine MAX_HEADER_BYTES (start_of bytes) (Err kind) new → HasNoFirstLine bytes (record { line = line; kind = kind })
none-there bytes kind new line is (inl none) = record { kind = inl none; line = is }
none-there bytes kind new line is (inr failed) = record { kind = inr (inl (failed.0, tt)); line = is }
