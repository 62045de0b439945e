-- The outcome for a history and a certificate within the small limits, and what a run of the check does with their bytes.
use Rattle.std.specs.Prelude.{ℕ, ◌≡◌, ◌≢◌, List, [], Option, None, Result, Ok, Err}
use Rattle.tcc_txn.specs.Snapshots.{Sessions}
use Rattle.tcc_txn.specs.declared.limits.Limits.TheVariants.{Small}
use Rattle.tcc_rows.specs.Answers as rows
use Rattle.tcc_rows.specs.Items.{finished_in}
use Rattle.tcc_rows.specs.declared.rows.Item.{Item}
use Rattle.tcc_rows.specs.declared.fault.RowFault.{RowFault}
use Rattle.tcc_reads.specs.Faults.{read_faults}
use Rattle.tcc_reads.specs.History.{History}
use Rattle.tcc_reads.specs.Sources.{history}
use Rattle.tcc_cert.specs.Outcomes.{IsReading}
use Rattle.tcc_cert.specs.Reading.{certificate_read}
use Rattle.tcc_cert.specs.declared.certificate.Certificate.{Certificate}
use Rattle.tcc_cert.specs.declared.fault.CertFaultKind.TheVariants as text_kind
use Rattle.tcc_check.specs.Streams.{claim_of}
use Rattle.tcc_check.specs.Verdicts.{IsVerdict, IsTrueClaim}
use Rattle.tcc_rules.specs.declared.judgement.Judgement.{Judgement}
use Rattle.tcc_print.specs.declared.run_error.RunError.{RunError}
use Rattle.tcc_print.specs.declared.run_error.RunError.TheVariants.{Text}
use Rattle.tcc_print.specs.Printed.{check_text}
use Rattle.tcc_print.specs.Statuses.{check_status}
use Rattle.tcc_verdict.specs.Checking.{Check, IsOfRecords, IsOfSnapshot, IsOutcome, IsCheckRunBy, MayBe, PrintsOutcome}

-- The outcome of a certificate's text, for a history. It is the claim of the certificate with this text, and the verdict on that
-- certificate. Else it is the first fault of the text, or that of a reader that failed before.
abbrev pub IsTextCheck : History → List ℕ → Result Judgement RunError → Type 0
IsTextCheck h text (Ok judged) =
    (c : Certificate) × (certificate_read text ≡ Ok c) × (judged.claim ≡ claim_of c) × IsVerdict h c judged.verdict
IsTextCheck h text (Err (Text fault)) = IsReading text (Err fault) × (fault.kind ≢ text_kind.NoMemory)
IsTextCheck h text (Err _) = ⊥

-- the check of records within the small limits
abbrev pub small_check : Check Judgement
small_check = record {
  limits = Small;
  of_text = λ s text o. IsTextCheck (history s) text o;
  text = check_text;
  status = check_status;
}

-- the outcome for a snapshot
abbrev pub IsSnapshotCheck : Sessions → List ℕ → Result Judgement RunError → Type 0
IsSnapshotCheck s text o = IsOfSnapshot small_check s text o

-- for records
abbrev pub IsRecordsCheck : List Item → Option RowFault → List ℕ → Result Judgement RunError → Type 0
IsRecordsCheck items fault text o = IsOfRecords small_check items fault text o

-- for their bytes
abbrev pub IsCheck : List ℕ → List ℕ → Result Judgement RunError → Type 0
IsCheck records text o = IsOutcome small_check records text o

-- for their bytes, where a reader may fail and memory may be refused
abbrev pub MayBeCheck : List ℕ → List ℕ → Result Judgement RunError → Type 0
MayBeCheck records text o = MayBe small_check records text o

-- the text of some outcome and its status, whatever is known of the bytes
abbrev pub PrintsSome : Option (List ℕ) → Option (List ℕ) → ℕ → Type 0
PrintsSome before after code = PrintsOutcome small_check before after code

-- what a run does with the bytes
abbrev pub IsCheckRun : List ℕ → List ℕ → Option (List ℕ) → Option (List ℕ) → ℕ → Type 0
IsCheckRun records text before after code = IsCheckRunBy small_check records text before after code

-- The bytes are those of a history without faults, and the text of a certificate for it whose claim is true. Its order is a commit
-- order, or its links are a least cycle with the claimed cost.
pub record IsShown (records : List ℕ) (text : List ℕ) : Type 0 where
  pub certificate : Certificate
  pub unfaulted : (rows.answers_of records).fault ≡ None
  pub resolved : read_faults (finished_in (rows.answers_of records).items) ≡ []
  pub read : certificate_read text ≡ Ok certificate
  pub true_claim : IsTrueClaim (history (finished_in (rows.answers_of records).items)) certificate
