-- What a run of explain --large wrote is accepted by the check of the same records.
use Rattle.std.proofs.Common.{◌≡◌, ◌≢◌, ◌<◌, ℕ, List, [], Option, None, Some, Result, Ok, Err, true, false, length, refl, sym, ap, subst, ◌∙◌, inl, inr, arith}
use Rattle.std.specs.Io.KnownBytes.{Appends}
use Rattle.std.proofs.Math.Seq.{take-length}
use Rattle.tcc_txn.specs.Finished.{KeepsLimits}
use Rattle.tcc_txn.specs.Snapshots.{Sessions}
use Rattle.tcc_txn.specs.declared.limits.Limits.TheVariants as limits
use Rattle.tcc_rows.specs.Items.{finished_in}
use Rattle.tcc_rows.specs.declared.fault.RowFault.{RowFault}
use Rattle.tcc_reads.specs.Faults.{read_faults}
use Rattle.tcc_reads.specs.History.{History, count}
use Rattle.tcc_reads.specs.Sources.{history}
use Rattle.tcc_reads.proofs.Rising.{by_session}
use Rattle.tcc_graph.specs.Levels.{judged}
use Rattle.tcc_graph.specs.declared.level.Level.{Level}
use Rattle.tcc_cert.specs.LargeReading.{large_certificate_read}
use Rattle.tcc_cert.specs.LargeTexts.{HasLargeText, large_certificate_text}
use Rattle.tcc_cert.specs.Outcomes.{IsFailure, IsLargeReading, IsReading}
use Rattle.tcc_cert.specs.Reading.{certificate_read}
use Rattle.tcc_cert.specs.Rules.{Certifies}
use Rattle.tcc_cert.specs.Texts.{certificate_text}
use Rattle.tcc_cert.specs.declared.certificate.Certificate.{Certificate}
use Rattle.tcc_cert.specs.declared.fault.CertFault.{CertFault}
use Rattle.tcc_cert.specs.declared.fault.CertFaultKind.{CertFaultKind}
use Rattle.tcc_cert.specs.declared.fault.CertFaultKind.TheVariants as text_kind
use Rattle.tcc_cert.specs.declared.large.LargeCertificate.{LargeCertificate}
use Rattle.tcc_rules.specs.Asked.{AllHold, IsVerdictOf}
use Rattle.tcc_check.specs.Streams as small
use Rattle.tcc_check.specs.Verdicts.{IsTrueClaim}
use Rattle.tcc_rules.specs.declared.verdict.Rule.{Rule as SmallRule}
use Rattle.tcc_rules.specs.declared.verdict.Verdict.{Verdict}
use Rattle.tcc_rules.specs.declared.verdict.Verdict.TheVariants as verdict
use Rattle.tcc_check.proofs.Claims.{rejected_false}
use Rattle.tcc_answer.specs.Claims.{certificate_of}
use Rattle.tcc_answer.specs.declared.answer.Answer.{Answer}
use Rattle.tcc_explain.specs.Explained.{IsAnswerOfHistory}
use Rattle.tcc_explain.specs.Keys.{HasNames}
use Rattle.tcc_explain.proofs.CertifiedAnswer.{certified}
use Rattle.tcc_explain.proofs.RecordedKeys.{recorded_within}
use Rattle.tcc_explain.proofs.WrittenAnswer.{read_back}
use Rattle.tcc_judge.specs.Verdicts.{rules_of}
use Rattle.tcc_judge.specs.declared.verdict.LargeRule.{LargeRule}
use Rattle.tcc_judge.proofs.Followed.{own_order}
use Rattle.tcc_verdict.specs.LargeChecks.{IsLargeShown, IsLargeTextCheck, IsTrueLargeClaim, IsVerdictFor, large_check, large_claim_of}
use Rattle.tcc_verdict.specs.LargeTexts.{large_status, large_verdict_text}
use Rattle.tcc_verdict.specs.declared.large.judgement.LargeClaim.{LargeClaim}
use Rattle.tcc_verdict.specs.declared.large.judgement.LargeJudgement.{LargeJudgement}
use Rattle.tcc_verdict.specs.declared.large.judgement.LargeJudgement.TheVariants.{Small, Large}
use Rattle.tcc_verdict.proofs.LargeShown as check
use Rattle.tcc_verdict.proofs.Owned.{owned}
use Rattle.tcc_print.specs.Courses.{Said}
use Rattle.tcc_print.specs.Printed.{Prints}
use Rattle.tcc_print.specs.Statuses.{certificate_status, code_of, row_status}
use Rattle.tcc_print.specs.declared.run_error.RunError.{RunError}
use Rattle.tcc_print.specs.declared.run_error.RunError.TheVariants.{Row, Reads, Text, NoMemory}
use Rattle.tcc_print.specs.declared.options.Options.{Options}
use Rattle.tcc_print.specs.declared.status.Status.TheVariants as status
use Rattle.tcc_verdict.specs.Checking.{IsOfRecords, IsOfSnapshot, IsOutcome, MayBe}
use Rattle.tcc_run.specs.LargeClosing.{IsAcceptedClaim, IsAcceptedWith, IsJudgedAs}
use Rattle.tcc_run.specs.LargeRuns.{IsClaimedOf, IsResolvedAs, answers_of, finished}
use Rattle.tcc_run.specs.private.Laws.{Laws}
use Rattle.tcc_run.proofs.FirstLines.{claim_version, answer_version}
use Rattle.tcc_run.proofs.Own.{claim_keeps, claim_said}

ok_not_err : {X E : Type 0} (o : Result X E) (x : X) (e : E) → o ≡ Ok x → o ≡ Err e → ⊥
ok_not_err o x e fine failed = (let both : Ok x ≡ Err e = sym fine ∙ failed in cc both)

inside : {X : Type 0} (x y : X) → Some x ≡ Some y → x ≡ y
inside x y e = cc e

apart : true ≡ false → ⊥
apart e = cc e

-- a reading that failed, but not for want of memory
read_failed : (kind : CertFaultKind) → IsFailure (Unit {0}) kind → kind ≢ text_kind.NoMemory → kind ≡ text_kind.Read
read_failed kind (inl read) other = read.0
read_failed kind (inr memory) other = absurd (other memory)

-- ---- from the text to the bytes of a run

module _ (true_small : (h : History) (k : Certificate) → Certifies h k → IsTrueClaim h k)
    (true_large : (s : Sessions) (k : LargeCertificate) → AllHold (rules_of (history s) k) → IsTrueLargeClaim (history s) k) (options : Options)
    (records text : List ℕ) (unfaulted : (answers_of records).fault ≡ None) (resolved : read_faults (finished records) ≡ []) (j : LargeJudgement)
    (success : large_status j ≡ status.Success) (claim : IsAcceptedClaim options (finished records) text j)
    (own : IsLargeTextCheck (finished records) text (Ok j))
    (others : (o : Result LargeJudgement RunError) → IsLargeTextCheck (finished records) text o → IsJudgedAs j o) where
  accepted : IsOutcome large_check records text (Ok j)
  accepted =
      subst (λ (found : Option RowFault). IsOfRecords large_check (answers_of records).items found text (Ok j)) (sym unfaulted) (inr (resolved, own))

  of_snapshot : (o : Result LargeJudgement RunError) → IsOfSnapshot large_check (finished records) text o → IsJudgedAs j o
  of_snapshot o (inl faulty) = absurd (faulty.0 resolved)
  of_snapshot o (inr checked) = others o checked.1

  only : (o : Result LargeJudgement RunError) → MayBe large_check records text o → IsJudgedAs j o
  only o (inl is) =
      of_snapshot o (subst (λ (found : Option RowFault). IsOfRecords large_check (answers_of records).items found text o) unfaulted is)
  only o (inr (inl failed)) = subst (IsJudgedAs j) (sym failed.2) refl
  only o (inr (inr memory)) = subst (IsJudgedAs j) (sym memory) tt

  module _ (before after : Option (List ℕ)) (code : ℕ) (fine : code ≢ code_of status.Device) (space : code ≢ code_of status.Memory) where
    printed : (o : Result LargeJudgement RunError) → IsJudgedAs j o → Prints before after (large_check.text o) (large_check.status o) code
        → (code ≡ 0) × Appends before after (large_verdict_text j)
    printed o is (inr part) = absurd (fine part.1)
    printed (Ok other) is (inl whole) = (
      whole.1 ∙ ap (λ (k : LargeJudgement). code_of (large_status k)) is ∙ ap code_of success,
      subst (λ (k : LargeJudgement). Appends before after (large_verdict_text k)) is whole.0,
    )
    printed (Err (Row fault)) is (inl whole) = absurd (fine (whole.1 ∙ ap (λ kind. code_of (row_status kind)) is))
    printed (Err (Text fault)) is (inl whole) = absurd (fine (whole.1 ∙ ap (λ kind. code_of (certificate_status kind)) is))
    printed (Err NoMemory) is (inl whole) = absurd (space whole.1)
    printed (Err (Reads faults)) is (inl whole) = absurd is

  shown : IsLargeShown records text
  shown = check.shown true_small true_large records text None None 0 (Ok j, inl accepted, inl (tt, sym (ap code_of success))) refl

  whole : IsAcceptedWith options records text
  whole = record {
    judgement = j;
    claim = claim;
    accepted = accepted;
    only = only;
    prints = λ before after code run fine space. printed before after code fine space run.0 (only run.0 run.1) run.2;
    shown = shown;
  }

-- ---- within the small limits

module _ (s : Sessions) (limits : KeepsLimits s) (named : HasNames s) (level : Level) (a : Answer) (is : IsAnswerOfHistory (judged (history s) level) a) where
  abbrev c : Certificate
  c = certificate_of a

  abbrev small_accepted : LargeJudgement
  small_accepted = Small (record { claim = small.claim_of c; verdict = verdict.Accepted })

  small_back : certificate_read (certificate_text c) ≡ Ok c
  small_back = read_back s limits named level a is

  keeps : Certifies (history s) c
  keeps = certified s level a is

  small_own : IsLargeTextCheck s (certificate_text c) (Ok small_accepted)
  small_own = (answer_version a, c, small_back, refl, inl (limits, keeps))

  by_verdict : (read : Certificate) (v : Verdict SmallRule) → c ≡ read → IsVerdictFor s read v → v ≡ verdict.Accepted
  by_verdict read v same (inr past) = absurd (past.0 limits)
  by_verdict read verdict.Accepted same (inl says) = refl
  by_verdict read (verdict.Rejected rule at) same (inl says) =
      absurd (rejected_false (history s) read rule at says.1 (subst (Certifies (history s)) same keeps))

  small_failed : (fault : CertFault) → IsReading (certificate_text c) (Err fault) → fault.kind ≢ text_kind.NoMemory → fault.kind ≡ text_kind.Read
  small_failed fault (inl other) kind = absurd (ok_not_err (certificate_read (certificate_text c)) c fault small_back other)
  small_failed fault (inr cut) kind = read_failed fault.kind cut.failure kind

  small_others : (o : Result LargeJudgement RunError) → IsLargeTextCheck s (certificate_text c) o → IsJudgedAs small_accepted o
  small_others (Ok (Small j)) (version, read, reads, claims, says) =
      let same : c ≡ read = (let both : Ok c ≡ Ok read = sym small_back ∙ reads in cc both) in
      ap (λ k. Small (record { claim = k; verdict = j.verdict })) (claims ∙ ap small.claim_of (sym same))
      ∙ ap (λ v. Small (record { claim = small.claim_of c; verdict = v })) (by_verdict read j.verdict same says)
  small_others (Ok (Large said v)) is = absurd (apart (sym is.0 ∙ answer_version a))
  small_others (Err (Text fault)) (inl reading, kind) = small_failed fault reading.1 kind
  small_others (Err (Text fault)) (inr reading, kind) = absurd (apart (sym reading.0 ∙ answer_version a))
  small_others (Err (Row fault)) is = absurd is
  small_others (Err (Reads faults)) is = absurd is
  small_others (Err NoMemory) is = absurd is

-- ---- above them

module _ (kept : (h : History) (k : LargeCertificate) → AllHold (rules_of h k) → (said : Verdict LargeRule) → IsVerdictOf (rules_of h k) said → said ≡ verdict.Accepted)
    (s : Sessions) (k : LargeCertificate) (room : HasLargeText k) (back : large_certificate_read (large_certificate_text k) ≡ Ok k)
    (keeps : AllHold (rules_of (history s) k)) where
  abbrev large_accepted : LargeJudgement
  large_accepted = Large (large_claim_of k) verdict.Accepted

  large_own : IsLargeTextCheck s (large_certificate_text k) (Ok large_accepted)
  large_own = (claim_version k, k, back, refl, keeps)

  large_failed : (fault : CertFault) → IsLargeReading (large_certificate_text k) (Err fault) → fault.kind ≢ text_kind.NoMemory
      → fault.kind ≡ text_kind.Read
  large_failed fault (inl other) kind = absurd (ok_not_err (large_certificate_read (large_certificate_text k)) k fault back other)
  large_failed fault (inr cut) kind = read_failed fault.kind cut.failure kind

  large_others : (o : Result LargeJudgement RunError) → IsLargeTextCheck s (large_certificate_text k) o → IsJudgedAs large_accepted o
  large_others (Ok (Small j)) is = absurd (apart (sym (claim_version k) ∙ is.0))
  large_others (Ok (Large said v)) (version, read, reads, claims, says) =
      let same : k ≡ read = (let both : Ok k ≡ Ok read = sym back ∙ reads in cc both) in
      ap (λ (c : LargeClaim). Large c v) (claims ∙ ap large_claim_of (sym same))
      ∙ ap (λ (w : Verdict LargeRule). Large (large_claim_of k) w)
      (kept (history s) read (subst (λ (one : LargeCertificate). AllHold (rules_of (history s) one)) same keeps) v says)
  large_others (Err (Text fault)) (inl reading, kind) = absurd (apart (sym (claim_version k) ∙ reading.0))
  large_others (Err (Text fault)) (inr reading, kind) = large_failed fault reading.1 kind
  large_others (Err (Row fault)) is = absurd is
  large_others (Err (Reads faults)) is = absurd is
  large_others (Err NoMemory) is = absurd is

-- ---- what was said

module _ (laws : Laws) (options : Options) (records : List ℕ) (unfaulted : (answers_of records).fault ≡ None)
    (resolved : read_faults (finished records) ≡ []) where
  all_named : HasNames (finished records)
  all_named =
      subst (λ items. HasNames (finished_in items)) (take-length (answers_of records).items)
      (recorded_within limits.Large records (length (answers_of records).items))

  some : 0 < count (history (finished records))
  some = omega arith

  rules_kept : (claim : LargeCertificate) (said : Said) → IsClaimedOf options (history (finished records)) claim said
      → AllHold (rules_of (history (finished records)) claim)
  rules_kept claim said is =
      let s = finished records in
      claim_keeps (history s) (own_order (history s) (by_session s) some (owned s)) laws.cycle laws.short options claim said is

  of_answer : KeepsLimits (finished records) → (a : Answer) → IsAnswerOfHistory (judged (history (finished records)) options.level) a
      → IsAcceptedWith options records (certificate_text (certificate_of a))
  of_answer within a is =
      whole laws.true_small laws.true_large options records (certificate_text (certificate_of a)) unfaulted resolved
      (small_accepted (finished records) within all_named options.level a is) refl (within, a, is, refl, refl)
      (small_own (finished records) within all_named options.level a is) (small_others (finished records) within all_named options.level a is)

  of_claim : (KeepsLimits (finished records) → ⊥) → (claim : LargeCertificate) (said : Said)
      → IsClaimedOf options (history (finished records)) claim said → HasLargeText claim → IsAcceptedWith options records (large_certificate_text claim)
  of_claim past claim said is room =
      let s = finished records in
      let keeps_all = rules_kept claim said is in
      whole laws.true_small laws.true_large options records (large_certificate_text claim) unfaulted resolved
      (large_accepted laws.kept s claim room (laws.back claim room) keeps_all) refl (past, claim, said, is, refl, refl, refl)
      (large_own laws.kept s claim room (laws.back claim room) keeps_all) (large_others laws.kept s claim room (laws.back claim room) keeps_all)

  -- the certificate of what was said about all that was finished
  pub said_accepted : (said : Said) (text : List ℕ) → said.certificate ≡ Some text → IsResolvedAs options (finished records) said
      → IsAcceptedWith options records text
  said_accepted said text has (inl (within, a, is, same)) =
      subst (IsAcceptedWith options records) (inside _ _ (sym (ap (λ (one : Said). one.certificate) same) ∙ has)) (of_answer within a is)
  said_accepted said text has (inr (past, claim, is, room)) =
      subst (IsAcceptedWith options records) (inside _ _ (sym (claim_said options (history (finished records)) claim said is) ∙ has))
      (of_claim past claim said is room)

  -- and it has one
  pub said_certified : (said : Said) → IsResolvedAs options (finished records) said → (text : List ℕ) × (said.certificate ≡ Some text)
  said_certified said (inl (within, a, is, same)) = (certificate_text (certificate_of a), ap (λ (one : Said). one.certificate) same)
  said_certified said (inr (past, claim, is, room)) = (large_certificate_text claim, claim_said options (history (finished records)) claim said is)
