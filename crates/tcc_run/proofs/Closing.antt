-- What `explain` writes for records, `check` accepts with the same records.
use Rattle.std.proofs.Common.{◌≡◌, ◌≢◌, ℕ, List, [], length, take, None, Result, Ok, Err, refl, sym, ap, subst, ◌∙◌, inl, inr}
use Rattle.std.specs.Prelude.{IfOk}
use Rattle.std.proofs.Math.Seq.{take-length}
use Rattle.tcc_rows.specs.Answers.{answers_of}
use Rattle.tcc_txn.specs.Finished.{KeepsLimits}
use Rattle.tcc_rows.specs.Items.{finished_in}
use Rattle.tcc_txn.specs.Snapshots.{Sessions}
use Rattle.tcc_txn.specs.declared.memory.NoMemory as memory
use Rattle.tcc_reads.specs.Faults.{read_faults}
use Rattle.tcc_reads.specs.Sources.{history}
use Rattle.tcc_graph.specs.declared.level.Level.{Level}
use Rattle.tcc_cert.specs.Outcomes.{IsReading, IsFailure}
use Rattle.tcc_cert.specs.Reading.{certificate_read}
use Rattle.tcc_cert.specs.Rules.{Certifies}
use Rattle.tcc_cert.specs.Texts.{certificate_text}
use Rattle.tcc_cert.specs.declared.certificate.Certificate.{Certificate}
use Rattle.tcc_cert.specs.declared.fault.CertFault.{CertFault}
use Rattle.tcc_cert.specs.declared.fault.CertFaultKind.TheVariants as text_kind
use Rattle.tcc_check.specs.Streams.{claim_of}
use Rattle.tcc_check.specs.Verdicts.{IsVerdict}
use Rattle.tcc_rules.specs.declared.verdict.Rule.{Rule}
use Rattle.tcc_rules.specs.declared.verdict.Verdict.{Verdict}
use Rattle.tcc_rules.specs.declared.verdict.Verdict.TheVariants as verdict
use Rattle.tcc_check.proofs.Claims.{rejected_false}
use Rattle.tcc_answer.specs.Claims.{certificate_of}
use Rattle.tcc_answer.specs.declared.answer.Answer.{Answer}
use Rattle.tcc_explain.specs.Explained.{IsAnswerOfHistory}
use Rattle.tcc_explain.specs.Keys.{HasNames}
use Rattle.tcc_explain.proofs.CertifiedAnswer.{certified}
use Rattle.tcc_explain.proofs.RecordedKeys.{recorded}
use Rattle.tcc_explain.proofs.WrittenAnswer.{read_back}
use Rattle.tcc_rules.specs.declared.judgement.Judgement.{Judgement}
use Rattle.tcc_graph.specs.Levels.{judged}
use Rattle.tcc_print.specs.declared.run_error.RunError.{RunError}
use Rattle.tcc_print.specs.declared.run_error.RunError.TheVariants.{Row, Reads, Text, NoMemory}
use Rattle.tcc_verdict.specs.Checks.{IsCheck, IsRecordsCheck, IsSnapshotCheck, IsTextCheck, MayBeCheck}
use Rattle.tcc_run.specs.Closing.{IsAcceptance, acceptance}

-- what all items finish keeps the limits, since what the first n of them finish does, for every n
pub of_all : ((text : List ℕ) (n : ℕ) → KeepsLimits (finished_in (take n (answers_of text).items))) → (records : List ℕ)
    → KeepsLimits (finished_in (answers_of records).items)
of_all law records = subst (λ items. KeepsLimits (finished_in items)) (take-length (answers_of records).items) (law records (length (answers_of records).items))

ok_not_err : {X E : Type 0} (o : Result X E) (x : X) (e : E) → o ≡ Ok x → o ≡ Err e → ⊥
ok_not_err o x e fine failed = (let both : Ok x ≡ Err e = sym fine ∙ failed in cc both)

-- the sessions of all that the records finish
abbrev all_of : List ℕ → Sessions
all_of records = finished_in (answers_of records).items

module _ (records : List ℕ) (limits : KeepsLimits (all_of records)) (level : Level) (a : Answer) (unfaulted : (answers_of records).fault ≡ None)
    (resolved : read_faults (all_of records) ≡ [])
    (is : IsAnswerOfHistory (judged (history (all_of records)) level) a) where
  abbrev c : Certificate
  c = certificate_of a

  named : HasNames (all_of records)
  named = subst (λ items. HasNames (finished_in items)) (take-length (answers_of records).items) (recorded records (length (answers_of records).items))

  back : certificate_read (certificate_text c) ≡ Ok c
  back = read_back (all_of records) limits named level a is

  keeps : Certifies (history (all_of records)) c
  keeps = certified (all_of records) level a is

  -- by the definition of the check, the certificate is accepted
  pub accepted : IsCheck records (certificate_text c) (acceptance c)
  accepted =
      subst (λ found. IsRecordsCheck (answers_of records).items found (certificate_text c) (acceptance c)) (sym unfaulted)
      (inr (resolved, (c, back, refl, keeps)))

  by_verdict : (read : Certificate) (v : Verdict Rule) → c ≡ read → IsVerdict (history (all_of records)) read v → v ≡ verdict.Accepted
  by_verdict read verdict.Accepted same says = refl
  by_verdict read (verdict.Rejected rule at) same says =
      absurd (rejected_false (history (all_of records)) read rule at says (subst (Certifies (history (all_of records))) same keeps))

  failed_reading : (fault : CertFault) → IsReading (certificate_text c) (Err fault) → fault.kind ≢ text_kind.NoMemory → fault.kind ≡ text_kind.Read
  failed_reading fault (inl other) kind = absurd (ok_not_err (certificate_read (certificate_text c)) c fault back other)
  failed_reading fault (inr cut) kind = go cut.failure
    where
      go : IsFailure (Unit {0}) fault.kind → fault.kind ≡ text_kind.Read
      go (inl read) = read.0
      go (inr memory) = absurd (kind memory)

  of_text : (o : Result Judgement RunError) → IsTextCheck (history (all_of records)) (certificate_text c) o → IsAcceptance c o
  of_text (Ok judged) (read, reads, claims, says) =
      let same : c ≡ read = (let both : Ok c ≡ Ok read = sym back ∙ reads in cc both) in
      (claims ∙ ap claim_of (sym same), by_verdict read judged.verdict same says)
  of_text (Err (Row fault)) is = absurd is
  of_text (Err (Reads faults)) is = absurd is
  of_text (Err (Text fault)) is = failed_reading fault is.0 is.1
  of_text (Err NoMemory) is = absurd is

  of_snapshot : (o : Result Judgement RunError) → IsSnapshotCheck (all_of records) (certificate_text c) o → IsAcceptance c o
  of_snapshot o (inl faulty) = absurd (faulty.0 resolved)
  of_snapshot o (inr checked) = of_text o checked.1

  -- and the check has no other result, unless a reader fails or memory is refused
  pub only : (o : Result Judgement RunError) → MayBeCheck records (certificate_text c) o → IsAcceptance c o
  only o (inl check) = of_snapshot o (subst (λ found. IsRecordsCheck (answers_of records).items found (certificate_text c) o) unfaulted check)
  only o (inr (inl failed)) = subst (IsAcceptance c) (sym failed.2) refl
  only o (inr (inr memory)) = subst (IsAcceptance c) (sym memory) tt

-- what is no rejection is an acceptance
pub own : (s : Sessions) (level : Level) (a : Answer) (checked : Result (Verdict Rule) memory.NoMemory) → Certifies (history s) (certificate_of a)
    → IfOk checked (IsVerdict (history s) (certificate_of a)) → IfOk checked (λ v. v ≡ verdict.Accepted)
own s level a (Ok verdict.Accepted) keeps says = refl
own s level a (Ok (verdict.Rejected rule at)) keeps says = absurd (rejected_false (history s) (certificate_of a) rule at says keeps)
own s level a (Err e) keeps says = tt
