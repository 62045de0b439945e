-- What is said about a snapshot of any size is one text, by the laws on first answers.
use Rattle.std.proofs.Common.{ℕ, ◌≡◌, List, [], ◌∷◌, ◌++◌, refl, sym, ap, subst, ◌∙◌, inl, inr}
use Rattle.std.specs.List.{AllZip}
use Rattle.tcc_txn.specs.Snapshots.{Sessions}
use Rattle.tcc_rows.specs.Answers as rows
use Rattle.tcc_reads.specs.Faults.{read_faults}
use Rattle.tcc_reads.specs.History.{History}
use Rattle.tcc_reads.specs.Sources.{history}
use Rattle.tcc_reads.specs.declared.fault.ReadFault.{ReadFault}
use Rattle.tcc_graph.specs.Answers as first
use Rattle.tcc_graph.specs.Levels.{Judged, judged}
use Rattle.tcc_graph.specs.declared.level.Level.{Level}
use Rattle.tcc_cert.specs.declared.large.LargeCertificate.{LargeCertificate}
use Rattle.tcc_answer.specs.declared.answer.Answer.{Answer}
use Rattle.tcc_explain.specs.Explained.{IsAnswerOfHistory}
use Rattle.tcc_print.specs.Courses.{IsWholeCourse, Said, faults_said, texts}
use Rattle.tcc_print.specs.Printed.{answered}
use Rattle.tcc_print.specs.Statuses.{answer_status}
use Rattle.tcc_print.specs.declared.options.Options.{Options}
use Rattle.tcc_print.specs.declared.status.Status.{Status}
use Rattle.tcc_run.specs.Runs.{AskAlike}
use Rattle.tcc_run.specs.LargeRuns.{IsClaimedOf, IsResolvedAs, IsSaidWithLarge, bare}

-- the text and the status
abbrev Told : Type 0
Told = List ℕ × Status

abbrev told : Said → Told
told said = (said.text, said.status)

abbrev told_of : Options → Answer → Told
told_of options a = (answered options.json a, answer_status options.required a)

module _ (one_first : (j : Judged) (some other : first.Answer) → first.IsFirstAnswer j some → first.IsFirstAnswer j other → some ≡ other)
    (one_answer : (j : Judged) (some other : Answer) → IsAnswerOfHistory j some → IsAnswerOfHistory j other → some ≡ other) (options others : Options)
    (alike : AskAlike options others) where
  options_again : (a : Answer) → told_of options a ≡ told_of others a
  options_again a = rw (alike.form, alike.required) refl

  faults_again : (faults : List ReadFault) → told (faults_said options faults) ≡ told (faults_said others faults)
  faults_again faults = rw alike.form refl

  small_again : (s : Sessions) (a b : Answer) → IsAnswerOfHistory (judged (history s) options.level) a
      → IsAnswerOfHistory (judged (history s) others.level) b → told_of options a ≡ told_of others b
  small_again s a b is too =
      let same : a ≡ b
      = one_answer (judged (history s) options.level) a b is
      (subst (λ (l : Level). IsAnswerOfHistory (judged (history s) l) b) (sym alike.level) too) in
      options_again a ∙ ap (told_of others) same

  large_again : (h : History) (claim claim' : LargeCertificate) (said again : Said) → IsClaimedOf options h claim said → IsClaimedOf others h claim' again
      → told said ≡ told again
  large_again h claim claim' said again (a, is, says, told_so) (b, too, says', told_too) =
      let same : a ≡ b
      = one_first (judged h options.level) a b is (subst (λ (l : Level). first.IsFirstAnswer (judged h l) b) (sym alike.level) too) in
      let between : told_of options (bare options.level h a) ≡ told_of others (bare others.level h b)
      = ap (λ (l : Level). told_of options (bare l h a)) alike.level ∙ options_again (bare others.level h a)
      ∙ ap (λ (c : first.Answer). told_of others (bare others.level h c)) same in
      ap told told_so ∙ between ∙ sym (ap told told_too)

  resolved_again : (s : Sessions) (said again : Said) → IsResolvedAs options s said → IsResolvedAs others s again → told said ≡ told again
  resolved_again s said again (inl (keeps, a, is, so)) (inl (keeps', b, too, so')) = ap told so ∙ small_again s a b is too ∙ sym (ap told so')
  resolved_again s said again (inl (keeps, a, is, so)) (inr (past, claim, too, room)) = absurd (past keeps)
  resolved_again s said again (inr (past, claim, is, room)) (inl (keeps, b, too, so)) = absurd (past keeps)
  resolved_again s said again (inr (past, claim, is, room)) (inr (past', claim', too, room')) = large_again (history s) claim claim' said again is too

  told_again : (s : Sessions) (said again : Said) → IsSaidWithLarge options s said → IsSaidWithLarge others s again → told said ≡ told again
  told_again s said again (inl (none, is)) (inl (none', too)) = resolved_again s said again is too
  told_again s said again (inl (none, is)) (inr (faulty, so)) = absurd (faulty none)
  told_again s said again (inr (faulty, so)) (inl (none, is)) = absurd (faulty none)
  told_again s said again (inr (faulty, so)) (inr (faulty', so')) =
      ap told so ∙ faults_again (read_faults s) ∙ sym (ap told so')

  pub said_again : (s : Sessions) (said again : Said) → IsSaidWithLarge options s said → IsSaidWithLarge others s again
      → (said.text ≡ again.text) × (said.status ≡ again.status)
  said_again s said again is too =
      let same = told_again s said again is too in (ap (λ (t : Told). t.0) same, ap (λ (t : Told). t.1) same)

  each_again : (snapshots : List Sessions) (said again : List Said) → AllZip (IsSaidWithLarge options) snapshots said
      → AllZip (IsSaidWithLarge others) snapshots again → texts said ≡ texts again
  each_again [] [] [] is too = refl
  each_again [] [] (y ∷ again) is too = absurd too
  each_again [] (x ∷ said) again is too = absurd is
  each_again (s ∷ snapshots) [] again is too = absurd is
  each_again (s ∷ snapshots) (x ∷ said) [] is too = absurd too
  each_again (s ∷ snapshots) (x ∷ said) (y ∷ again) is too =
      let one : x.text ≡ y.text = (said_again s x y is.0 too.0).0 in
      let rest : texts said ≡ texts again = each_again snapshots said again is.1 too.1 in
      ap (λ (text : List ℕ). text ++ texts said) one ∙ ap (λ (text : List ℕ). y.text ++ text) rest

  pub whole_again : (all : rows.Answers) (said again : List Said) → IsWholeCourse (IsSaidWithLarge options) all said
      → IsWholeCourse (IsSaidWithLarge others) all again → texts said ≡ texts again
  whole_again all said again is too = each_again _ said again is.1.0 too.1.0
