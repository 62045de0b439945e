-- The result of the check of what was explained.
use Rattle.std.specs.Prelude.{◌≡◌, Result, Ok, Err}
use Rattle.tcc_rows.specs.declared.fault.RowFaultKind.TheVariants as row_kind
use Rattle.tcc_cert.specs.declared.certificate.Certificate.{Certificate}
use Rattle.tcc_cert.specs.declared.fault.CertFaultKind.TheVariants as text_kind
use Rattle.tcc_check.specs.Streams.{claim_of}
use Rattle.tcc_rules.specs.declared.verdict.Verdict.TheVariants as verdict
use Rattle.tcc_rules.specs.declared.judgement.Judgement.{Judgement}
use Rattle.tcc_print.specs.declared.run_error.RunError.{RunError}
use Rattle.tcc_print.specs.declared.run_error.RunError.TheVariants.{Row, Reads, Text, NoMemory}

-- the claim of the certificate was accepted
abbrev pub acceptance : Certificate → Result Judgement RunError
acceptance c = Ok (record { claim = claim_of c; verdict = verdict.Accepted })

-- the claim was accepted, unless a reader failed or memory was refused
abbrev pub IsAcceptance : Certificate → Result Judgement RunError → Type 0
IsAcceptance c (Ok judged) = (judged.claim ≡ claim_of c) × (judged.verdict ≡ verdict.Accepted)
IsAcceptance c (Err (Row fault)) = fault.kind ≡ row_kind.Read
IsAcceptance c (Err (Text fault)) = fault.kind ≡ text_kind.Read
IsAcceptance c (Err NoMemory) = Unit {0}
IsAcceptance c (Err (Reads faults)) = ⊥
