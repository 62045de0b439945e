-- The result for a certificate whose text a reader gives.
use Rattle.std.specs.Prelude.{ℕ, ◌≡◌, ◌≢◌, List, Result, Ok, Err}
use Rattle.tcc_reads.specs.History.{History}
use Rattle.tcc_cert.specs.Outcomes.{IsReading}
use Rattle.tcc_cert.specs.Reading.{certificate_read}
use Rattle.tcc_cert.specs.declared.certificate.Certificate.{Certificate}
use Rattle.tcc_cert.specs.declared.certificate.Certificate.TheVariants as certificate
use Rattle.tcc_cert.specs.declared.fault.CertFaultKind.TheVariants as kind
use Rattle.tcc_rules.specs.declared.judgement.Claim.{Claim}
use Rattle.tcc_rules.specs.declared.judgement.Claim.TheVariants as claim
use Rattle.tcc_rules.specs.declared.judgement.Judgement.{Judgement}
use Rattle.tcc_rules.specs.declared.stream_fault.StreamFault.{StreamFault}
use Rattle.tcc_rules.specs.declared.stream_fault.StreamFault.TheVariants.{Text, NoMemory}
use Rattle.tcc_rules.specs.declared.verdict.Rule.{Rule}
use Rattle.tcc_rules.specs.declared.verdict.Verdict.{Verdict}
use Rattle.tcc_check.specs.Verdicts.{IsVerdict}

-- what a certificate claims, without what the claim is judged by
abbrev pub claim_of : Certificate → Claim
claim_of (certificate.Order k) = claim.Order
claim_of (certificate.Cycle k) = claim.Cycle k.least

-- the first fault of the bytes, or that of a reader that failed before; or memory was refused
abbrev pub IsStreamFault : List ℕ → StreamFault → Type 0
IsStreamFault bytes (Text fault) = IsReading bytes (Err fault) × (fault.kind ≢ kind.NoMemory)
IsStreamFault bytes NoMemory = Unit {0}

-- the claim and the verdict of the certificate that the bytes are the text of, else why there is none
abbrev pub IsJudged : History → List ℕ → Result Judgement StreamFault → Type 0
IsJudged h bytes (Ok judgement) =
    (c : Certificate) × (certificate_read bytes ≡ Ok c) × (judgement.claim ≡ claim_of c) × IsVerdict h c judgement.verdict
IsJudged h bytes (Err fault) = IsStreamFault bytes fault

-- the claim alone
abbrev pub IsClaimed : List ℕ → Result Claim StreamFault → Type 0
IsClaimed bytes (Ok said) = (c : Certificate) × (certificate_read bytes ≡ Ok c) × (said ≡ claim_of c)
IsClaimed bytes (Err fault) = IsStreamFault bytes fault

-- the verdict alone
abbrev pub IsStreamed : History → List ℕ → Result (Verdict Rule) StreamFault → Type 0
IsStreamed h bytes (Ok verdict) = (c : Certificate) × (certificate_read bytes ≡ Ok c) × IsVerdict h c verdict
IsStreamed h bytes (Err fault) = IsStreamFault bytes fault
