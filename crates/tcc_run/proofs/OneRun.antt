-- A whole run says the same by options that ask for the same.
use Rattle.std.proofs.Common.{◌≡◌, ◌⊎◌, ℕ, suc, List, [], ◌∷◌, ◌++◌, Some, take, refl, sym, ap, subst, ◌∙◌, inl, inr, append_assoc}
use Rattle.std.proofs.Common.{append-nil, zero}
use Rattle.std.specs.List.{AllZip}
use Rattle.tcc_rows.specs.Answers as rows
use Rattle.tcc_rows.specs.Items.{finished_in}
use Rattle.tcc_txn.specs.Snapshots.{Sessions}
use Rattle.tcc_rows.specs.declared.rows.Item.{Item}
use Rattle.tcc_rows.specs.declared.rows.Item.TheVariants as item
use Rattle.tcc_rows.specs.declared.fault.RowFault.{RowFault}
use Rattle.tcc_reads.specs.Sources.{history}
use Rattle.tcc_graph.specs.Levels.{Judged, judged}
use Rattle.tcc_answer.specs.declared.answer.Answer.{Answer}
use Rattle.tcc_explain.specs.Explained.{IsAnswerOfHistory}
use Rattle.tcc_print.specs.declared.options.Options.{Options}
use Rattle.tcc_print.specs.declared.run_error.RunError.TheVariants as error
use Rattle.tcc_print.specs.Courses.{Said, answer_said, run_error_said}
use Rattle.tcc_run.specs.Runs.{AreAnswersOfRun, AreFront, AskAlike, IsSaidOfSnapshot, IsStopped, IsWholeRun}
use Rattle.tcc_print.specs.Checkpoints.{at_end}
use Rattle.tcc_print.specs.Checkpoints.{sealed_after, sealed_in}

-- the snapshots at the seals among the first items are the first of those at all seals
sealed-front : (before items : List Item) (n : ℕ)
    → (rest : List Sessions) × (sealed_after before items ≡ sealed_after before (take n items) ++ rest)
sealed-front before [] zero = ([], refl)
sealed-front before [] (suc n) = ([], refl)
sealed-front before (i ∷ items) zero = (sealed_after before (i ∷ items), refl)
sealed-front before (item.Finished session txn ∷ items) (suc n) = sealed-front (before ++ item.Finished session txn ∷ []) items n
sealed-front before (item.Unknown session txn ∷ items) (suc n) = sealed-front (before ++ item.Unknown session txn ∷ []) items n
sealed-front before (item.Seal ∷ items) (suc n) =
    let behind = sealed-front (before ++ item.Seal ∷ []) items n in
    (behind.0, ap (λ sealed. finished_in before ∷ sealed) behind.1)
sealed-front before (item.End ∷ items) (suc n) = sealed-front (before ++ item.End ∷ []) items n

inside : (x y : RowFault) → Some x ≡ Some y → x ≡ y
inside x y e = cc e

module _ (one : (j : Judged) (some other : Answer) → IsAnswerOfHistory j some → IsAnswerOfHistory j other → some ≡ other) (options others : Options)
    (alike : AskAlike options others) where
  answer_again : (a b : Answer) → a ≡ b → answer_said options a ≡ answer_said others b
  answer_again a b same = rw (alike.form, alike.required) (ap (answer_said others) same)

  said_again : (s : Sessions) (x y : Said) → IsSaidOfSnapshot options s x → IsSaidOfSnapshot others s y → x ≡ y
  said_again s x y (inl (resolved, a, is, e)) (inl (again, b, too, f)) =
      let same : a ≡ b =
      one (judged (history s) options.level) a b is
      (subst (λ l. IsAnswerOfHistory (judged (history s) l) b) (sym alike.level) too) in
      e ∙ answer_again a b same ∙ sym f
  said_again s x y (inl (resolved, a, is, e)) (inr (faulty, f)) = absurd (faulty resolved)
  said_again s x y (inr (faulty, e)) (inl (resolved, b, is, f)) = absurd (faulty resolved)
  said_again s x y (inr (faulty, e)) (inr (again, f)) = e ∙ rw alike.form refl ∙ sym f

  all_again : (snapshots : List Sessions) (xs ys : List Said) → AllZip (IsSaidOfSnapshot options) snapshots xs → AllZip (IsSaidOfSnapshot others) snapshots ys → xs ≡ ys
  all_again [] [] [] are too = refl
  all_again [] [] (y ∷ ys) are too = absurd too
  all_again [] (x ∷ xs) ys are too = absurd are
  all_again (s ∷ snapshots) [] ys are too = absurd are
  all_again (s ∷ snapshots) (x ∷ xs) [] are too = absurd too
  all_again (s ∷ snapshots) (x ∷ xs) (y ∷ ys) are too =
      let first : x ≡ y = said_again s x y are.0 too.0 in
      let rest : xs ≡ ys = all_again snapshots xs ys are.1 too.1 in
      ap (λ z. z ∷ xs) first ∙ ap (λ zs. y ∷ zs) rest

  -- where two lists of snapshots begin one list, the answers for one of them are the first of those for the other
  fronts : (P Q r q : List Sessions) (xs ys : List Said) → P ++ r ≡ Q ++ q → AllZip (IsSaidOfSnapshot options) P xs → AllZip (IsSaidOfSnapshot others) Q ys
      → AreFront xs ys ⊎ AreFront ys xs
  fronts [] Q r q [] ys same are too = inl (ys, refl)
  fronts [] Q r q (x ∷ xs) ys same are too = absurd are
  fronts (s ∷ P) [] r q xs [] same are too = inr (xs, refl)
  fronts (s ∷ P) [] r q xs (y ∷ ys) same are too = absurd too
  fronts (s ∷ P) (t ∷ Q) r q [] ys same are too = absurd are
  fronts (s ∷ P) (t ∷ Q) r q (x ∷ xs) [] same are too = absurd too
  fronts (s ∷ P) (t ∷ Q) r q (x ∷ xs) (y ∷ ys) same are too =
      let at : s ≡ t = cc same in
      let behind : P ++ r ≡ Q ++ q = cc same in
      let first : x ≡ y = said_again s x y are.0 (subst (λ u. IsSaidOfSnapshot others u y) (sym at) too.0) in
      elim (fronts P Q r q xs ys behind are.1 too.1) [
        | inl more ↦ inl (more.0, ap (λ z. z ∷ ys) (sym first) ∙ ap (λ zs. x ∷ zs) more.1)
        | inr more ↦ inr (more.0, ap (λ z. z ∷ xs) first ∙ ap (λ zs. y ∷ zs) more.1)
      ]

  -- the answers that a run gave are those for the first of all snapshots
  record IsFront (asked : Options) (snapshots : List Sessions) (answers : List Said) : Type 0 where
    some : List Sessions
    rest : List Sessions
    are : AllZip (IsSaidOfSnapshot asked) some answers
    all : snapshots ≡ some ++ rest

  front_of : (asked : Options) (text : List ℕ) (said answers : List Said) → AreAnswersOfRun asked text said answers
      → IsFront asked (sealed_in (rows.answers_of text).items ++ at_end (rows.answers_of text).items) answers
  front_of asked text said answers (inl (is, same)) = record {
    some = sealed_in (rows.answers_of text).items ++ at_end (rows.answers_of text).items;
    rest = [];
    are = subst (AllZip (IsSaidOfSnapshot asked) (sealed_in (rows.answers_of text).items ++ at_end (rows.answers_of text).items)) (sym same) is.1.0;
    all = sym (append-nil (sealed_in (rows.answers_of text).items ++ at_end (rows.answers_of text).items));
  }
  front_of asked text said answers (inr (n, why, may, are, same)) =
      let cut = sealed-front [] (rows.answers_of text).items n in record {
        some = sealed_in (take n (rows.answers_of text).items);
        rest = cut.0 ++ at_end (rows.answers_of text).items;
        are = are.0;
        all = ap (λ sealed. sealed ++ at_end (rows.answers_of text).items) cut.1
            ∙ append_assoc (sealed_in (take n (rows.answers_of text).items)) cut.0 (at_end (rows.answers_of text).items);
      }

  pub front_again : (text : List ℕ) (said again answers more : List Said) → AreAnswersOfRun options text said answers
      → AreAnswersOfRun others text again more → AreFront answers more ⊎ AreFront more answers
  front_again text said again answers more is too =
      let one = front_of options text said answers is in
      let other = front_of others text again more too in
      fronts one.some other.some one.rest other.rest answers more (sym one.all ∙ other.all) one.are other.are

  pub stopped_again : (all : rows.Answers) (said again : List Said) → IsStopped options all said → IsStopped others all again → said ≡ again
  stopped_again all said again (fault, xs, has, are, is) (other, ys, too, answered, same) =
      let alike_fault : fault ≡ other = inside fault other (sym has ∙ too) in
      let answers : xs ≡ ys = all_again (sealed_in all.items) xs ys are.0 answered.0 in
      is ∙ ap (λ zs. zs ++ run_error_said options (error.Row fault) ∷ []) answers
      ∙ ap (λ (u : RowFault). ys ++ run_error_said options (error.Row u) ∷ []) alike_fault
      ∙ rw alike.form refl ∙ sym same

  pub whole_again : (all more : rows.Answers) (xs ys : List Said) → sealed_in all.items ++ at_end all.items ≡ sealed_in more.items ++ at_end more.items
      → IsWholeRun options all xs → IsWholeRun others more ys → xs ≡ ys
  whole_again all more xs ys same is too =
      all_again (sealed_in all.items ++ at_end all.items) xs ys is.1.0 (subst (λ snapshots. AllZip (IsSaidOfSnapshot others) snapshots ys) (sym same) too.1.0)
