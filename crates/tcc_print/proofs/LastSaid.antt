-- The last of the snapshots that a run answers is that of all that was finished, and what was said last is the end of all texts.
use Rattle.std.proofs.Common.{◌≡◌, ℕ, Bool, true, false, cond, List, [], ◌∷◌, ◌++◌, Option, None, Some}
use Rattle.std.proofs.Common.{refl, sym, ap, subst, ◌∙◌, inl, inr, ◌⊎◌, ◌≢◌, append_assoc, append-nil}
use Rattle.std.specs.List.{AllZip, last_or}
use Rattle.std.specs.FinMap as finite
use Rattle.std.proofs.lemmas.List.Sums.{fold-append}
use Rattle.tcc_rows.specs.Answers.{answers_within}
use Rattle.tcc_rows.specs.Items.{finished_in, with_item}
use Rattle.tcc_txn.specs.Snapshots.{Sessions}
use Rattle.tcc_rows.specs.declared.rows.Item.{Item}
use Rattle.tcc_rows.specs.declared.rows.Item.TheVariants as item
use Rattle.tcc_txn.specs.declared.limits.Limits.{Limits}
use Rattle.tcc_print.specs.Courses.{AreSaid, IsEndedCourse, IsWholeCourse, MayEnd, Said, run_error_said, texts}
use Rattle.tcc_print.specs.Checkpoints.{at_end, is_due_after, sealed_after, sealed_in}
use Rattle.tcc_print.specs.Printed.{Prints}
use Rattle.tcc_print.specs.Statuses.{code_of, run_error_status, row_status}
use Rattle.tcc_print.specs.declared.run_error.RunError.{RunError}
use Rattle.tcc_print.specs.declared.run_error.RunError.TheVariants as error
use Rattle.tcc_print.specs.declared.options.Options.{Options}
use Rattle.tcc_print.specs.declared.status.Status.TheVariants.{Device, Memory}
use Rattle.tcc_print.proofs.Checkpoints.{last-push}

-- some snapshots, and this one after them
abbrev EndsWith : List Sessions → Sessions → Type 0
EndsWith snapshots s = (front : List Sessions) × (snapshots ≡ front ++ s ∷ [])

-- there are none, and nothing was finished since; or they end with what was finished
abbrev EndsSince : List Item → List Item → Type 0
EndsSince before items =
    ((sealed_after before items ≡ []) × (finished_in (before ++ items) ≡ finished_in before))
    ⊎ EndsWith (sealed_after before items) (finished_in (before ++ items))

finished_on : (before : List Item) (one : Item) → finished_in (before ++ one ∷ []) ≡ with_item (finished_in before) one
finished_on before one = fold-append with_item finite.empty before (one ∷ [])

moved : (before : List Item) (one : Item) (items : List Item) (snapshots : List Sessions) → EndsWith snapshots (finished_in ((before ++ one ∷ []) ++ items))
    → EndsWith snapshots (finished_in (before ++ one ∷ items))
moved before one items snapshots ends = subst (λ all. EndsWith snapshots (finished_in all)) (append_assoc before (one ∷ []) items) ends

-- at a seal, after which nothing is due at the end
from_seal : (before items : List Item) → EndsSince (before ++ item.Seal ∷ []) items
    → EndsWith (sealed_after before (item.Seal ∷ items)) (finished_in (before ++ item.Seal ∷ items))
from_seal before items (inl (none, same)) =
    moved before item.Seal items (sealed_after before (item.Seal ∷ items)) ([], rw none (ap (λ s. s ∷ []) (sym (same ∙ finished_on before item.Seal))))
from_seal before items (inr (front, is)) =
    moved before item.Seal items (sealed_after before (item.Seal ∷ items)) (finished_in before ∷ front, ap (λ rest. finished_in before ∷ rest) is)

-- the snapshots at the seals after some items end with what was finished; by cases, whether an answer is due before them
abbrev Since : Bool → List Item → List Item → Type 0
Since true before items = EndsWith (sealed_after before items) (finished_in (before ++ items))
Since false before items = EndsSince before items

since : (items : List Item) (due : Bool) (before : List Item) → is_due_after due items ≡ false → Since due before items
since [] true before e = cc e
since [] false before e = inl (refl, ap finished_in (append-nil before))
since (item.Finished session txn ∷ items) true before e = moved before _ items _ (since items true (before ++ item.Finished session txn ∷ []) e)
since (item.Finished session txn ∷ items) false before e = inr (moved before _ items _ (since items true (before ++ item.Finished session txn ∷ []) e))
since (item.Unknown session txn ∷ items) true before e = moved before _ items _ (since items true (before ++ item.Unknown session txn ∷ []) e)
since (item.Unknown session txn ∷ items) false before e = go (since items false (before ++ item.Unknown session txn ∷ []) e)
  where
    go : EndsSince (before ++ item.Unknown session txn ∷ []) items → EndsSince before (item.Unknown session txn ∷ items)
    go (inl (none, same)) =
        inl (none, ap finished_in (sym (append_assoc before (item.Unknown session txn ∷ []) items)) ∙ same ∙ finished_on before (item.Unknown session txn))
    go (inr ends) = inr (moved before _ items _ ends)
since (item.Seal ∷ items) true before e = from_seal before items (since items false (before ++ item.Seal ∷ []) e)
since (item.Seal ∷ items) false before e = inr (from_seal before items (since items false (before ++ item.Seal ∷ []) e))
since (item.End ∷ items) true before e = moved before _ items _ (since items true (before ++ item.End ∷ []) e)
since (item.End ∷ items) false before e = go (since items false (before ++ item.End ∷ []) e)
  where
    go : EndsSince (before ++ item.End ∷ []) items → EndsSince before (item.End ∷ items)
    go (inl (none, same)) = inl (none, ap finished_in (sym (append_assoc before (item.End ∷ []) items)) ∙ same ∙ finished_on before item.End)
    go (inr ends) = inr (moved before _ items _ ends)

pub last_snapshot : (items : List Item) → EndsWith (sealed_in items ++ at_end items) (finished_in items)
last_snapshot items = go (is_due_after true items) refl
  where
    go : (b : Bool) → is_due_after true items ≡ b → EndsWith (sealed_in items ++ cond b (finished_in items ∷ []) []) (finished_in items)
    go true e = (sealed_in items, refl)
    go false e = let (front, is) = since items true [] e in (front, append-nil (sealed_in items) ∙ is)

-- what is said last is said of the last
last_paired : {S T : Type 0} (R : S → T → Type 0) (front : List S) (x : S) (said : List T) (before : Option T) (last : T) → AllZip R (front ++ x ∷ []) said
    → last_or before said ≡ Some last → R x last
last_paired R [] x [] before last all e = absurd all
last_paired R [] x (y ∷ []) before last all e = let same : y ≡ last = cc e in subst (R x) same all.0
last_paired R [] x (y ∷ z ∷ said) before last all e = absurd all.1
last_paired R (w ∷ front) x [] before last all e = absurd all
last_paired R (w ∷ front) x (y ∷ said) before last all e = last_paired R front x said (Some y) last all.1 e

pub last_said : (R : Sessions → Said → Type 0) (items : List Item) (said : List Said) (last : Said) → AreSaid R (sealed_in items ++ at_end items) said
    → last_or None said ≡ Some last → R (finished_in items) last
last_said R items said last all e =
    let (front, is) = last_snapshot items in
    last_paired R front (finished_in items) said None last (subst (λ snapshots. AllZip R snapshots said) is all.0) e

-- ---- the texts

inside : {X : Type 0} (x y : X) → Some x ≡ Some y → x ≡ y
inside x y e = cc e

nothing : {X : Type 0} (x : X) → None ≡ Some x → ⊥
nothing x e = cc e

-- the text of the last is the end of all texts
texts_from : (one : Said) (said : List Said) (last : Said) → last_or (Some one) said ≡ Some last
    → (front : List ℕ) × (one.text ++ texts said ≡ front ++ last.text)
texts_from one [] last e = ([], append-nil one.text ∙ ap (λ (s : Said). s.text) (inside one last e))
texts_from one (next ∷ said) last e =
    let (front, is) = texts_from next said last e in
    (one.text ++ front, ap (λ rest. one.text ++ rest) is ∙ sym (append_assoc one.text front last.text))

pub texts_end : (said : List Said) (last : Said) → last_or None said ≡ Some last → (front : List ℕ) × (texts said ≡ front ++ last.text)
texts_end [] last e = absurd (nothing last e)
texts_end (one ∷ said) last e = texts_from one said last e

-- what is printed for a device that failed has its status
pub device_code : (before after : Option (List ℕ)) (text : List ℕ) (code : ℕ) → Prints before after text Device code → code ≡ code_of Device
device_code before after text code (inl whole) = whole.1
device_code before after text code (inr part) = part.1

-- ---- how a run ended, by what was said last

module _ (limits : Limits) (is_said : Sessions → Said → Type 0) (options : Options) (bytes : List ℕ) (said : List Said) (last : Said)
    (end : last_or None said ≡ Some last) (ends : IsWholeCourse is_said (answers_within limits bytes) said ⊎ IsEndedCourse limits is_said options bytes said) where
  -- it was said of all that was finished, or ended the run
  abbrev OfAll : Type 0
  OfAll = ((answers_within limits bytes).fault ≡ None) × is_said (finished_in (answers_within limits bytes).items) last

  abbrev RunErrors : Type 0
  RunErrors = (n : ℕ) × (why : RunError) × MayEnd limits bytes n why × (last ≡ run_error_said options why)

  of_all_or_error : OfAll ⊎ RunErrors
  of_all_or_error = by ends
    where
      by : IsWholeCourse is_said (answers_within limits bytes) said ⊎ IsEndedCourse limits is_said options bytes said → OfAll ⊎ RunErrors
      by (inl (unfaulted, are)) = inl (unfaulted, last_said is_said (answers_within limits bytes).items said last are end)
      by (inr (answers, (n, why, may, are, same))) =
          inr (n, why, may, inside last (run_error_said options why) (sym end ∙ ap (last_or None) same ∙ last-push None answers (run_error_said options why)))

  -- what has a certificate was said of all that was finished
  pub certified_last : (text : List ℕ) → last.certificate ≡ Some text
      → ((answers_within limits bytes).fault ≡ None) × is_said (finished_in (answers_within limits bytes).items) last
  certified_last text has = elim of_all_or_error [
    | inl all ↦ all
    | inr run_errors ↦ absurd (nothing text (sym (ap (λ (s : Said). s.certificate) run_errors.3) ∙ has))
  ]

  -- so was what a run said last, where neither a device nor refused memory ended it and the records have no fault
  module _ (unfaulted : (answers_within limits bytes).fault ≡ None) (code : ℕ) (fine : code ≢ code_of Device) (space : code ≢ code_of Memory)
      (is : code ≡ code_of last.status) where
    printed_error : (n : ℕ) (why : RunError) → MayEnd limits bytes n why → code ≡ code_of (run_error_status why) → ⊥
    printed_error n (error.Row fault) (inl (found, at)) ends = nothing fault (sym unfaulted ∙ found)
    printed_error n (error.Row fault) (inr (read, at, count)) ends = fine (ends ∙ ap (λ kind. code_of (row_status kind)) read)
    printed_error n error.NoMemory may ends = space ends
    printed_error n (error.Reads faults) may ends = may
    printed_error n (error.Text fault) may ends = may

    pub last_of_all : is_said (finished_in (answers_within limits bytes).items) last
    last_of_all = elim of_all_or_error [
      | inl all ↦ all.1
      | inr run_errors ↦ absurd (printed_error run_errors.0 run_errors.1 run_errors.2 (is ∙ ap (λ (s : Said). code_of s.status) run_errors.3))
    ]
