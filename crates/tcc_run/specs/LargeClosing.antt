-- The result of the check, with the same records, of the certificate that a run of explain --large wrote.
use Rattle.std.specs.Prelude.{ℕ, ◌≡◌, ◌≢◌, List, ◌++◌, Option, Some, Result, Ok, Err}
use Rattle.std.specs.Io.KnownBytes.{Appends}
use Rattle.tcc_txn.specs.Finished.{KeepsLimits}
use Rattle.tcc_txn.specs.Snapshots.{Sessions}
use Rattle.tcc_rows.specs.declared.fault.RowFaultKind.TheVariants as row_kind
use Rattle.tcc_reads.specs.Sources.{history}
use Rattle.tcc_graph.specs.Levels.{judged}
use Rattle.tcc_cert.specs.LargeTexts.{large_certificate_text}
use Rattle.tcc_cert.specs.Texts.{certificate_text}
use Rattle.tcc_cert.specs.declared.fault.CertFaultKind.TheVariants as text_kind
use Rattle.tcc_cert.specs.declared.large.LargeCertificate.{LargeCertificate}
use Rattle.tcc_check.specs.Streams as small
use Rattle.tcc_rules.specs.declared.verdict.Verdict.TheVariants as verdict
use Rattle.tcc_answer.specs.Claims.{certificate_of}
use Rattle.tcc_answer.specs.declared.answer.Answer.{Answer}
use Rattle.tcc_explain.specs.Explained.{IsAnswerOfHistory}
use Rattle.tcc_verdict.specs.LargeChecks.{IsLargeShown, large_check, large_claim_of}
use Rattle.tcc_verdict.specs.LargeTexts.{large_verdict_text}
use Rattle.tcc_verdict.specs.declared.large.judgement.LargeJudgement.{LargeJudgement}
use Rattle.tcc_verdict.specs.declared.large.judgement.LargeJudgement.TheVariants.{Small, Large}
use Rattle.tcc_print.specs.Courses.{Gains, Said}
use Rattle.tcc_print.specs.Statuses.{code_of}
use Rattle.tcc_print.specs.declared.run_error.RunError.{RunError}
use Rattle.tcc_print.specs.declared.run_error.RunError.TheVariants.{Row, Reads, Text, NoMemory}
use Rattle.tcc_print.specs.declared.options.Options.{Options}
use Rattle.tcc_print.specs.declared.status.Status.TheVariants.{Device, Memory}
use Rattle.tcc_verdict.specs.Checking.{IsOutcome, IsCheckRunBy, MayBe}
use Rattle.tcc_run.specs.LargeRuns.{Files, IsClaimedOf, IsResolvedAs, IsSliced, finished}

-- the text is that of the certificate of the answer for the snapshot, and the judgement says that its claim is accepted. Within the small
-- limits the certificate is of version 2, above them of version 3
abbrev pub IsAcceptedClaim : Options → Sessions → List ℕ → LargeJudgement → Type 0
IsAcceptedClaim options s text (Small j) =
    KeepsLimits s × (a : Answer) × IsAnswerOfHistory (judged (history s) options.level) a × (text ≡ certificate_text (certificate_of a))
    × (j ≡ record { claim = small.claim_of (certificate_of a); verdict = verdict.Accepted })
IsAcceptedClaim options s text (Large said v) =
    (KeepsLimits s → ⊥) × (claim : LargeCertificate) × (one : Said) × IsClaimedOf options (history s) claim one
    × (text ≡ large_certificate_text claim) × (said ≡ large_claim_of claim) × (v ≡ verdict.Accepted)

-- this judgement, unless a reader failed or memory was refused
abbrev pub IsJudgedAs : LargeJudgement → Result LargeJudgement RunError → Type 0
IsJudgedAs j (Ok other) = other ≡ j
IsJudgedAs j (Err (Row fault)) = fault.kind ≡ row_kind.Read
IsJudgedAs j (Err (Text fault)) = fault.kind ≡ text_kind.Read
IsJudgedAs j (Err NoMemory) = Unit {0}
IsJudgedAs j (Err (Reads faults)) = ⊥

-- the check of these records accepts the text
pub record IsAcceptedWith (options : Options) (records : List ℕ) (text : List ℕ) : Type 0 where
  pub judgement : LargeJudgement
  pub claim : IsAcceptedClaim options (finished records) text judgement
  pub accepted : IsOutcome large_check records text (Ok judgement)
  -- and it has no other result, unless a reader fails or memory is refused
  pub only : (o : Result LargeJudgement RunError) → MayBe large_check records text o → IsJudgedAs judgement o
  -- so each run of it prints the line of the claim, `accepted: ..`, and ends with 0, where its status doesn't say that a device failed or
  -- that memory was out
  pub prints : (before : Option (List ℕ)) (after : Option (List ℕ)) (code : ℕ) → IsCheckRunBy large_check records text before after code
      → code ≢ code_of Device → code ≢ code_of Memory → (code ≡ 0) × Appends before after (large_verdict_text judgement)
  -- and what is claimed is true
  pub shown : IsLargeShown records text

-- what a run wrote after the output so far and to the files that are given, and its exit code
pub record PrintsDecided (options : Options) (records : List ℕ) (before : Option (List ℕ)) (after : Option (List ℕ)) (files : Files) (files' : Files)
    (code : ℕ) : Type 0 where
  -- what was said last is said about all that the records finish
  pub said : Said
  pub resolved : IsResolvedAs options (finished records) said
  -- its text is the end of what was printed
  pub front : List ℕ
  pub printed : Appends before after (front ++ said.text)
  -- the text of its certificate was written to the one file, and the records of its slice, if it has one, to the other. The exit code is
  -- that of its status
  pub text : List ℕ
  pub certificate : said.certificate ≡ Some text
  pub written : Gains files.certificate files'.certificate text
  pub sliced : IsSliced options (finished records) said files.slice files'.slice
  pub status : code ≡ code_of said.status
  -- the check of the same records accepts that text
  pub accepted : IsAcceptedWith options records text
