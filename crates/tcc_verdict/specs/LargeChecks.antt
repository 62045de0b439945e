-- The outcome for a history within the large limits and a certificate of any version.
use Rattle.std.specs.Prelude.{ℕ, ◌≡◌, ◌≢◌, ◌⊎◌, true, false, List, [], None, Result, Ok, Err, MatchOption, is_some}
use Rattle.tcc_txn.specs.Finished.{KeepsLimits}
use Rattle.tcc_txn.specs.Snapshots.{Sessions}
use Rattle.tcc_txn.specs.declared.limits.Limits.TheVariants as limits
use Rattle.tcc_rows.specs.Answers.{answers_within}
use Rattle.tcc_rows.specs.Items.{finished_in}
use Rattle.tcc_reads.specs.Faults.{read_faults}
use Rattle.tcc_reads.specs.History.{History}
use Rattle.tcc_reads.specs.Sources.{history}
use Rattle.tcc_graph.specs.Levels.{judged}
use Rattle.tcc_graph.specs.Links.{cost}
use Rattle.tcc_graph.specs.Orders.{IsCommitOrder}
use Rattle.tcc_graph.specs.Routes.{IsCycle, IsLeastCycle}
use Rattle.tcc_cert.specs.LargeReading.{is_large, large_certificate_read}
use Rattle.tcc_cert.specs.Outcomes.{IsLargeReading, IsReading}
use Rattle.tcc_cert.specs.Reading.{certificate_read}
use Rattle.tcc_cert.specs.declared.certificate.Certificate.{Certificate}
use Rattle.tcc_cert.specs.declared.fault.CertFault.{CertFault}
use Rattle.tcc_cert.specs.declared.fault.CertFaultKind.TheVariants as text_kind
use Rattle.tcc_cert.specs.declared.large.LargeCertificate.{LargeCertificate}
use Rattle.tcc_cert.specs.declared.large.LargeCertificate.TheVariants as certificate
use Rattle.tcc_check.specs.Streams.{claim_of}
use Rattle.tcc_check.specs.Verdicts.{IsVerdict, IsTrueClaim}
use Rattle.tcc_rules.specs.declared.verdict.Rule.{Rule}
use Rattle.tcc_rules.specs.declared.verdict.Rule.TheVariants.{Sizes}
use Rattle.tcc_rules.specs.declared.verdict.Verdict.{Verdict}
use Rattle.tcc_rules.specs.declared.verdict.Verdict.TheVariants as verdict
use Rattle.tcc_judge.specs.Runs.{order_of}
use Rattle.tcc_rules.specs.Asked.{IsVerdictOf}
use Rattle.tcc_judge.specs.Verdicts.{rules_of}
use Rattle.tcc_print.specs.declared.run_error.RunError.{RunError}
use Rattle.tcc_print.specs.declared.run_error.RunError.TheVariants.{Text}
use Rattle.tcc_verdict.specs.Checking.{Check}
use Rattle.tcc_verdict.specs.LargeTexts.{large_check_status, large_check_text}
use Rattle.tcc_verdict.specs.declared.large.judgement.LargeClaim.{LargeClaim}
use Rattle.tcc_verdict.specs.declared.large.judgement.LargeClaim.TheVariants as claim
use Rattle.tcc_verdict.specs.declared.large.judgement.LargeJudgement.{LargeJudgement}
use Rattle.tcc_verdict.specs.declared.large.judgement.LargeJudgement.TheVariants.{Small, Large}

-- what a certificate of version 3 claims, without the parts by which the claim is judged
abbrev pub large_claim_of : LargeCertificate → LargeClaim
large_claim_of (certificate.Order k) = claim.Order
large_claim_of (certificate.Cycle k) = claim.Cycle k.cost (is_some k.least)

-- The verdict on a certificate of version 1 or 2. For a history within the small limits it is that by the rules. For any other the
-- certificate is rejected by the rule on sizes, since these versions are for histories within them.
abbrev pub IsVerdictFor : Sessions → Certificate → Verdict Rule → Type 0
IsVerdictFor s c v = (KeepsLimits s × IsVerdict (history s) c v) ⊎ ((KeepsLimits s → ⊥) × (v ≡ verdict.Rejected Sizes (0, 0)))

-- the first fault of a text of any version, or that of a reader that failed before
abbrev pub IsTextFault : List ℕ → CertFault → Type 0
IsTextFault text fault = ((is_large text ≡ false) × IsReading text (Err fault)) ⊎ ((is_large text ≡ true) × IsLargeReading text (Err fault))

-- The outcome of a certificate's text, for a snapshot whose reads all have sources. It is the claim of the certificate with this text,
-- by its version, and the verdict on that certificate. Else it is the first fault of the text, or that of a reader that failed before.
abbrev pub IsLargeTextCheck : Sessions → List ℕ → Result LargeJudgement RunError → Type 0
IsLargeTextCheck s text (Ok (Small j)) =
    (is_large text ≡ false) × (c : Certificate) × (certificate_read text ≡ Ok c) × (j.claim ≡ claim_of c) × IsVerdictFor s c j.verdict
IsLargeTextCheck s text (Ok (Large said v)) =
    (is_large text ≡ true) × (c : LargeCertificate) × (large_certificate_read text ≡ Ok c) × (said ≡ large_claim_of c)
    × IsVerdictOf (rules_of (history s) c) v
IsLargeTextCheck s text (Err (Text fault)) = IsTextFault text fault × (fault.kind ≢ text_kind.NoMemory)
IsLargeTextCheck s text (Err _) = ⊥

-- the check of records within the large limits
abbrev pub large_check : Check LargeJudgement
large_check = record {
  limits = limits.Large;
  of_text = IsLargeTextCheck;
  text = large_check_text;
  status = large_check_status;
}

-- ---- what is shown

-- What a certificate of version 3 claims is true at its level. Its runs are those of a commit order; or its links are a cycle of the
-- claimed cost, and a least one where that is claimed.
abbrev pub IsTrueLargeClaim : History → LargeCertificate → Type 0
IsTrueLargeClaim h (certificate.Order k) = IsCommitOrder (judged h k.level) (order_of h k.runs)
IsTrueLargeClaim h (certificate.Cycle k) =
    MatchOption k.least ((s : ℕ) × IsCycle (judged h k.level) s k.links) (λ _. (s : ℕ) × IsLeastCycle (judged h k.level) s k.links)
    × (cost k.links ≡ k.cost)

-- the text is that of a certificate, by its version, whose claim is true
abbrev pub IsTrueText : History → List ℕ → Type 0
IsTrueText h text =
    ((c : Certificate) × (certificate_read text ≡ Ok c) × IsTrueClaim h c)
    ⊎ ((c : LargeCertificate) × (large_certificate_read text ≡ Ok c) × IsTrueLargeClaim h c)

-- the bytes are those of a history without faults and the text of a certificate for it, whose claim is true
pub record IsLargeShown (records : List ℕ) (text : List ℕ) : Type 0 where
  pub unfaulted : (answers_within limits.Large records).fault ≡ None
  pub resolved : read_faults (finished_in (answers_within limits.Large records).items) ≡ []
  pub true_claim : IsTrueText (history (finished_in (answers_within limits.Large records).items)) text
