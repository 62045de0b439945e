-- How the stages of a check follow one another.
use Rattle.std.specs.Prelude.{ℕ, ◌≡◌, ◌≢◌, true, false, List, Result, Ok, Err}
use Rattle.tcc_txn.specs.Finished.{KeepsLimits}
use Rattle.tcc_txn.specs.Snapshots.{Sessions}
use Rattle.tcc_reads.specs.History.{History}
use Rattle.tcc_reads.specs.Sources.{history}
use Rattle.tcc_cert.specs.LargeReading.{is_large, large_certificate_read}
use Rattle.tcc_cert.specs.Outcomes.{IsLargeReading}
use Rattle.tcc_cert.specs.Reading.{certificate_read}
use Rattle.tcc_cert.specs.declared.certificate.Certificate.{Certificate}
use Rattle.tcc_cert.specs.declared.fault.CertFaultKind.TheVariants as text_kind
use Rattle.tcc_cert.specs.declared.large.LargeCertificate.{LargeCertificate}
use Rattle.tcc_check.specs.Streams.{IsStreamFault, claim_of}
use Rattle.tcc_check.specs.Verdicts.{IsVerdict}
use Rattle.tcc_rules.specs.declared.judgement.Judgement.{Judgement}
use Rattle.tcc_rules.specs.declared.stream_fault.StreamFault.{StreamFault}
use Rattle.tcc_rules.specs.declared.stream_fault.StreamFault.TheVariants.{Text, NoMemory}
use Rattle.tcc_rules.specs.declared.verdict.Rule.{Rule}
use Rattle.tcc_rules.specs.declared.verdict.Rule.TheVariants.{Sizes}
use Rattle.tcc_rules.specs.declared.verdict.Verdict.{Verdict}
use Rattle.tcc_rules.specs.declared.verdict.Verdict.TheVariants as verdict
use Rattle.tcc_rules.specs.Asked.{IsVerdictOf}
use Rattle.tcc_judge.specs.Verdicts.{rules_of}
use Rattle.tcc_verdict.specs.LargeChecks.{IsTextFault, large_claim_of}
use Rattle.tcc_verdict.specs.declared.large.judgement.LargeJudgement.{LargeJudgement}
use Rattle.tcc_verdict.specs.declared.large.judgement.LargeJudgement.TheVariants as judgement
use Rattle.tcc_verdict.specs.declared.large.sized.SizedGraph.{SizedGraph}
use Rattle.tcc_verdict.specs.declared.large.sized.SizedGraph.TheVariants.{Small, Large}

abbrev pub history_in : SizedGraph → History
history_in (Small h) = h
history_in (Large h) = h

-- the history of the snapshot, which is small where the snapshot is
abbrev pub IsSizedHistory : Sessions → SizedGraph → Type 0
IsSizedHistory s (Small h) = KeepsLimits s × (h ≡ history s)
IsSizedHistory s (Large h) = (KeepsLimits s → ⊥) × (h ≡ history s)

-- the verdict on a certificate of version 1 or 2
abbrev pub IsSizedVerdict : SizedGraph → Certificate → Verdict Rule → Type 0
IsSizedVerdict (Small h) c v = IsVerdict h c v
IsSizedVerdict (Large h) c v = v ≡ verdict.Rejected Sizes (0, 0)

abbrev pub IsJudgedParts : SizedGraph → List ℕ → Result Judgement StreamFault → Type 0
IsJudgedParts graph bytes (Ok j) =
    (c : Certificate) × (certificate_read bytes ≡ Ok c) × (j.claim ≡ claim_of c) × IsSizedVerdict graph c j.verdict
IsJudgedParts graph bytes (Err fault) = IsStreamFault bytes fault

-- the first fault of a text of version 3, or that of a reader that failed before; or memory was refused
abbrev pub IsLargeStreamFault : List ℕ → StreamFault → Type 0
IsLargeStreamFault bytes (Text fault) = IsLargeReading bytes (Err fault) × (fault.kind ≢ text_kind.NoMemory)
IsLargeStreamFault bytes NoMemory = Unit {0}

-- the verdict on a certificate of version 3
abbrev pub IsJudgedLarge : History → List ℕ → Result LargeJudgement StreamFault → Type 0
IsJudgedLarge h bytes (Ok (judgement.Small j)) = ⊥
IsJudgedLarge h bytes (Ok (judgement.Large said v)) =
    (c : LargeCertificate) × (large_certificate_read bytes ≡ Ok c) × (said ≡ large_claim_of c) × IsVerdictOf (rules_of h c) v
IsJudgedLarge h bytes (Err fault) = IsLargeStreamFault bytes fault

-- the first fault of a text of any version, or that of a reader that failed before; or memory was refused
abbrev pub IsAnyStreamFault : List ℕ → StreamFault → Type 0
IsAnyStreamFault bytes (Text fault) = IsTextFault bytes fault × (fault.kind ≢ text_kind.NoMemory)
IsAnyStreamFault bytes NoMemory = Unit {0}

-- the verdict on a certificate, by its version
abbrev pub IsJudgedText : SizedGraph → List ℕ → Result LargeJudgement StreamFault → Type 0
IsJudgedText graph bytes (Ok (judgement.Small j)) = (is_large bytes ≡ false) × IsJudgedParts graph bytes (Ok j)
IsJudgedText graph bytes (Ok (judgement.Large said v)) =
    (is_large bytes ≡ true) × IsJudgedLarge (history_in graph) bytes (Ok (judgement.Large said v))
IsJudgedText graph bytes (Err fault) = IsAnyStreamFault bytes fault
