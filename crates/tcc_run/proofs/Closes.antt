-- What a run writes to the file for the certificate of its last answer is the certificate of the answer for all that the records finish.
use Rattle.std.proofs.Common.{ℕ, ◌≡◌, ◌≢◌, List, [], Option, None, Some, Result, refl, sym, ap, subst, ◌∙◌, inl, inr, ◌⊎◌}
use Rattle.std.specs.Prelude.{unwrap_or}
use Rattle.std.specs.List.{last_or}
use Rattle.tcc_rows.specs.Answers.{answers_of}
use Rattle.tcc_txn.specs.Finished.{KeepsLimits}
use Rattle.tcc_txn.specs.declared.limits.Limits.TheVariants.{Small}
use Rattle.tcc_rows.specs.Items.{finished_in}
use Rattle.tcc_cert.specs.Texts.{certificate_text}
use Rattle.tcc_cert.specs.declared.certificate.Certificate.{Certificate}
use Rattle.tcc_answer.specs.Claims.{certificate_of}
use Rattle.tcc_rules.specs.declared.judgement.Judgement.{Judgement}
use Rattle.tcc_print.specs.declared.run_error.RunError.{RunError}
use Rattle.tcc_print.specs.declared.options.Options.{Options}
use Rattle.tcc_verdict.specs.Checks.{IsCheck, MayBeCheck}
use Rattle.tcc_run.specs.Closing.{IsAcceptance, acceptance}
use Rattle.tcc_print.specs.Printed.{device_line}
use Rattle.tcc_print.specs.Statuses.{code_of}
use Rattle.tcc_print.specs.declared.status.Status.TheVariants.{Device}
use Rattle.tcc_print.specs.Courses.{Said}
use Rattle.tcc_run.specs.Runs.{IsSaidOfSnapshot, IsEndedRun, IsExplainRun, IsWholeRun}
use Rattle.tcc_run.proofs.Closing.{accepted, only}
use Rattle.tcc_print.proofs.LastSaid.{certified_last, device_code}

-- the check of these records accepts the text as that of the certificate, unless a reader fails or memory is refused
abbrev Accepts : List ℕ → List ℕ → Type 0
Accepts records text = (c : Certificate) × IsCheck records text (acceptance c) × ((o : Result Judgement RunError) → MayBeCheck records text o → IsAcceptance c o)

inside : {X : Type 0} (x y : X) → Some x ≡ Some y → x ≡ y
inside x y e = cc e

nothing : {X : Type 0} (x : X) → None ≡ Some x → ⊥
nothing x e = cc e

module _ (options : Options) (records text : List ℕ) (limits : KeepsLimits (finished_in (answers_of records).items)) (said : List Said) (last : Said)
    (end : last_or None said ≡ Some last) (has : last.certificate ≡ Some text) where
  of_answer : (answers_of records).fault ≡ None → IsSaidOfSnapshot options (finished_in (answers_of records).items) last → Accepts records text
  of_answer unfaulted (inl (resolved, a, is, same)) =
      let at : certificate_text (certificate_of a) ≡ text = inside _ _ (sym (ap (λ (s : Said). s.certificate) same) ∙ has) in (
        certificate_of a,
        subst (λ t. IsCheck records t (acceptance (certificate_of a))) at (accepted records limits options.level a unfaulted resolved is),
        λ o may. only records limits options.level a unfaulted resolved is o (subst (λ t. MayBeCheck records t o) (sym at) may),
      )
  of_answer unfaulted (inr (faulty, same)) = absurd (nothing text (sym (ap (λ (s : Said). s.certificate) same) ∙ has))

  pub closes : IsWholeRun options (answers_of records) said ⊎ IsEndedRun options records said → Accepts records text
  closes ends =
      let all = certified_last Small (IsSaidOfSnapshot options) options records said last end ends text has in of_answer all.0 all.1

-- what is in a file that was empty is the certificate of the last answer, where no device failed
pub left : (options : Options) (records text : List ℕ) → KeepsLimits (finished_in (answers_of records).items) → (before after : Option (List ℕ)) (code : ℕ)
    → IsExplainRun options records before after (Some (Some [])) (Some (Some text)) code → text ≢ [] → code ≢ code_of Device → Accepts records text
left options records text limits before after code (said, last, ends, end, inl (out, gains, sliced, is)) some fine = go last.certificate refl
  where
    go : (kept : Option (List ℕ)) → last.certificate ≡ kept → Accepts records text
    go None has = absurd (some (gains ∙ ap (λ k. unwrap_or k []) has))
    go (Some written) has =
        let same : text ≡ written = gains ∙ ap (λ k. unwrap_or k []) has in
        closes options records text limits said last end (has ∙ ap Some (sym same)) ends
left options records text limits before after code (said, last, ends, end, inr (inl (fails, none))) some fine = absurd (fine fails.0.1)
left options records text limits before after code (said, last, ends, end, inr (inr (between, out, inl ((whole, is, part, prints), none)))) some fine =
    absurd (fine (device_code between after (device_line options.json) code prints))
left options records text limits before after code (said, last, ends, end, inr (inr (between, out, inr (gains, stops)))) some fine =
    absurd (stops.0 refl)
