-- A run of the check that ends with success shows that the claim is true.
use Rattle.std.proofs.Common.{◌≡◌, ℕ, List, [], refl, sym, subst, ◌∙◌, false, Ok, Err, None, Some, Option, inl, inr}
use Rattle.std.specs.Prelude.{Result}
use Rattle.tcc_rows.specs.Answers.{answers_of, answers_within}
use Rattle.tcc_rows.specs.Items.{finished_in}
use Rattle.tcc_rows.specs.declared.fault.RowFault.{RowFault}
use Rattle.tcc_rows.specs.declared.fault.RowFaultKind.{RowFaultKind}
use Rattle.tcc_rows.specs.declared.fault.RowFaultKind.TheVariants as row_kind
use Rattle.tcc_reads.specs.Faults.{read_faults}
use Rattle.tcc_reads.specs.History.{History}
use Rattle.tcc_reads.specs.Sources.{history}
use Rattle.tcc_cert.specs.Rules.{Certifies}
use Rattle.tcc_cert.specs.declared.certificate.Certificate.{Certificate}
use Rattle.tcc_cert.specs.declared.fault.CertFaultKind.{CertFaultKind}
use Rattle.tcc_cert.specs.declared.fault.CertFaultKind.TheVariants as text_kind
use Rattle.tcc_check.specs.Verdicts.{IsVerdict, IsTrueClaim}
use Rattle.tcc_rules.specs.declared.verdict.Rule.{Rule}
use Rattle.tcc_rules.specs.declared.verdict.Verdict.{Verdict}
use Rattle.tcc_rules.specs.declared.verdict.Verdict.TheVariants as verdict
use Rattle.tcc_print.specs.declared.run_error.RunError.{RunError}
use Rattle.tcc_print.specs.declared.run_error.RunError.TheVariants.{Row, Reads, Text, NoMemory}
use Rattle.tcc_print.specs.declared.status.Status.TheVariants as status
use Rattle.tcc_print.specs.Statuses.{certificate_status, code_of, run_error_status, row_status, verdict_status}
use Rattle.tcc_print.specs.Printed.{Prints, PrintsOrMemory, memory_line}
use Rattle.tcc_verdict.specs.Checking.{Check, IsOfRecords, IsCheckRunBy, MayBe, PrintsOutcome}
use Rattle.tcc_verdict.specs.private.Stages.{TellsRunErrors}
use Rattle.tcc_verdict.specs.Checks.{IsCheckRun, IsShown, small_check}

-- ---- of any check

-- no fault of a record ends with success, whatever its kind
row_fails : (k : RowFaultKind) → code_of (row_status k) ≡ 0 → ⊥
row_fails row_kind.Read h = cc
row_fails _ h = cc

-- nor does a fault of a certificate's text
text_fails : (k : CertFaultKind) → code_of (certificate_status k) ≡ 0 → ⊥
text_fails text_kind.Read h = cc
text_fails _ h = cc

-- nor whatever else is printed in place of a verdict
run_error_fails : (why : RunError) → code_of (run_error_status why) ≡ 0 → ⊥
run_error_fails (Row fault) h = row_fails fault.kind h
run_error_fails (Reads faults) h = cc
run_error_fails (Text fault) h = text_fails fault.kind h
run_error_fails NoMemory h = cc

not_zero : code_of status.Device ≡ 0 → ⊥
not_zero h = cc

-- a judgement that ended with success, and the records that it is about
pub record Succeeds {J : Type 0} (check : Check J) (records : List ℕ) (text : List ℕ) : Type 0 where
  pub judged : J
  pub unfaulted : (answers_within check.limits records).fault ≡ None
  pub resolved : read_faults (finished_in (answers_within check.limits records).items) ≡ []
  pub of_text : check.of_text (finished_in (answers_within check.limits records).items) text (Ok judged)
  pub success : code_of (check.status (Ok judged)) ≡ 0

module _ {J : Type 0} (check : Check J) (records text : List ℕ) where
  judged_records : (judged : J) (found : Option RowFault) → (answers_within check.limits records).fault ≡ found
      → IsOfRecords check (answers_within check.limits records).items found text (Ok judged) → code_of (check.status (Ok judged)) ≡ 0
      → Succeeds check records text
  judged_records judged None same (inl faulty) success = absurd faulty.1
  judged_records judged None same (inr is) success =
      record { judged = judged; unfaulted = same; resolved = is.0; of_text = is.1; success = success }
  judged_records judged (Some fault) same is success = let bad : ⊥ = cc in absurd bad

  judged_run : (judged : J) → MayBe check records text (Ok judged) → code_of (check.status (Ok judged)) ≡ 0 → Succeeds check records text
  judged_run judged (inl is) success = judged_records judged (answers_within check.limits records).fault refl is success
  judged_run judged (inr (inl fails)) success = let e = fails.2 in let bad : ⊥ = cc in absurd bad
  judged_run judged (inr (inr memory)) success = let bad : ⊥ = cc in absurd bad

  module _ (tells : TellsRunErrors check) where
    outcome_succeeds : (o : Result J RunError) → MayBe check records text o → code_of (check.status o) ≡ 0 → Succeeds check records text
    outcome_succeeds (Ok judged) may success = judged_run judged may success
    outcome_succeeds (Err why) may success = absurd (run_error_fails why (subst (λ s. code_of s ≡ 0) (tells.status why) success))

    -- a run that ends with success has such a judgement
    pub run_succeeds : (before after : Option (List ℕ)) (code : ℕ) → IsCheckRunBy check records text before after code → code ≡ 0
        → Succeeds check records text
    run_succeeds before after code (o, may, inl whole) zero = outcome_succeeds o may (sym whole.1 ∙ zero)
    run_succeeds before after code (o, may, inr part) zero = absurd (not_zero (sym part.1 ∙ zero))

module _ {J : Type 0} (check : Check J) (tells : TellsRunErrors check) (before after : Option (List ℕ)) (o : Result J RunError) (code : ℕ) where
  memory : Prints before after (memory_line false) status.Memory code
      → Prints before after (check.text (Err NoMemory)) (check.status (Err NoMemory)) code
  memory prints =
      subst (λ t. Prints before after t (check.status (Err NoMemory)) code) (sym (tells.text NoMemory))
      (subst (λ s. Prints before after (memory_line false) s code) (sym (tells.status NoMemory)) prints)

  -- what is printed of the outcome, or of `NoMemory` in its place, is what a run may print
  pub run_of : (records text : List ℕ) → MayBe check records text o → PrintsOrMemory false before after (check.text o) (check.status o) code
      → IsCheckRunBy check records text before after code
  run_of records text may (inl prints) = (o, may, prints)
  run_of records text may (inr prints) = (Err NoMemory, inr (inr refl), memory prints)

  -- it is the text of some outcome
  pub prints_some : PrintsOrMemory false before after (check.text o) (check.status o) code → PrintsOutcome check before after code
  prints_some (inl prints) = (o, prints)
  prints_some (inr prints) = (Err NoMemory, memory prints)

-- ---- of the check within the small limits

pub small_tells : TellsRunErrors small_check
small_tells = record { text = λ why. refl; status = λ why. refl }

module _ (certified : (h : History) (k : Certificate) → Certifies h k → IsTrueClaim h k) where
  -- what is accepted is certified, and so true
  accepted : (h : History) (k : Certificate) (v : Verdict Rule) → IsVerdict h k v → code_of (verdict_status v) ≡ 0 → IsTrueClaim h k
  accepted h k verdict.Accepted is success = certified h k is
  accepted h k (verdict.Rejected rule at) is success = let bad : ⊥ = cc in absurd bad

  shown_by : (records text : List ℕ) → Succeeds small_check records text → IsShown records text
  shown_by records text is =
      let said = is.of_text in
      record {
        certificate = said.0;
        unfaulted = is.unfaulted;
        resolved = is.resolved;
        read = said.1;
        true_claim = accepted (history (finished_in (answers_of records).items)) said.0 is.judged.verdict said.3 is.success;
      }

  pub shown : (records text : List ℕ) (before after : Option (List ℕ)) (code : ℕ) → IsCheckRun records text before after code
      → code ≡ 0 → IsShown records text
  shown records text before after code run zero = shown_by records text (run_succeeds small_check records text small_tells before after code run zero)
