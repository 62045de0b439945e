-- What is answered for items that are read in parts.
use Rattle.std.proofs.Common.{◌≡◌, ℕ, zero, suc, ◌<◌, Bool, true, false, List, [], ◌∷◌, ◌++◌, length, take}
use Rattle.std.proofs.Common.{Option, None, Some, refl, ap, sym, subst, ◌∙◌, arith, inl, inr, ◌⊎◌, append_assoc}
use Rattle.std.proofs.Common.{append-nil}
use Rattle.std.specs.Prelude.{fold}
use Rattle.std.specs.List.{AllZip, last_or}
use Rattle.std.specs.FinMap as finite
use Rattle.std.proofs.lemmas.List.Sums.{fold-append}
use Rattle.std.proofs.Math.Seq.{take-append_seam}
use Rattle.tcc_rows.specs.Answers.{Answers}
use Rattle.tcc_txn.specs.Finished.{transaction_count, with_transaction}
use Rattle.tcc_rows.specs.Items.{finished_in, with_item}
use Rattle.tcc_rows.specs.Recordings.{Passes, after_items, has_seal}
use Rattle.tcc_txn.specs.Snapshots.{Sessions}
use Rattle.tcc_rows.specs.declared.rows.Item.{Item}
use Rattle.tcc_rows.specs.declared.rows.Item.TheVariants as item
use Rattle.tcc_print.specs.Courses.{AreRepeated, AreSaid, Said}
use Rattle.tcc_print.specs.Checkpoints.{at_end, is_due_after, sealed_after, sealed_in}
use Rattle.tcc_print.proofs.Counted.{grows}

-- ---- seals

sealed-append : (before xs ys : List Item) → sealed_after before (xs ++ ys) ≡ sealed_after before xs ++ sealed_after (before ++ xs) ys
sealed-append before [] ys = ap (λ b. sealed_after b ys) (sym (append-nil before))
sealed-append before (item.Finished session txn ∷ xs) ys =
    sealed-append (before ++ item.Finished session txn ∷ []) xs ys
    ∙ ap (λ b. sealed_after (before ++ item.Finished session txn ∷ []) xs ++ sealed_after b ys) (append_assoc before (item.Finished session txn ∷ []) xs)
sealed-append before (item.Unknown session txn ∷ xs) ys =
    sealed-append (before ++ item.Unknown session txn ∷ []) xs ys
    ∙ ap (λ b. sealed_after (before ++ item.Unknown session txn ∷ []) xs ++ sealed_after b ys) (append_assoc before (item.Unknown session txn ∷ []) xs)
sealed-append before (item.Seal ∷ xs) ys =
    ap (λ rest. finished_in before ∷ rest)
    (sealed-append (before ++ item.Seal ∷ []) xs ys
    ∙ ap (λ b. sealed_after (before ++ item.Seal ∷ []) xs ++ sealed_after b ys) (append_assoc before (item.Seal ∷ []) xs))
sealed-append before (item.End ∷ xs) ys =
    sealed-append (before ++ item.End ∷ []) xs ys
    ∙ ap (λ b. sealed_after (before ++ item.End ∷ []) xs ++ sealed_after b ys) (append_assoc before (item.End ∷ []) xs)

-- without a seal there is nothing to answer before the end
sealed-none : (before passed : List Item) → has_seal passed ≡ false → sealed_after before passed ≡ []
sealed-none before [] none = refl
sealed-none before (item.Finished session txn ∷ passed) none = sealed-none (before ++ item.Finished session txn ∷ []) passed none
sealed-none before (item.Unknown session txn ∷ passed) none = sealed-none (before ++ item.Unknown session txn ∷ []) passed none
sealed-none before (item.Seal ∷ passed) none = cc
sealed-none before (item.End ∷ passed) none = sealed-none (before ++ item.End ∷ []) passed none

-- items without a seal add no answer
pub sealed-passed : (taken passed : List Item) → has_seal passed ≡ false → sealed_in (taken ++ passed) ≡ sealed_in taken
sealed-passed taken passed none =
    sealed-append [] taken passed ∙ ap (λ rest. sealed_in taken ++ rest) (sealed-none taken passed none) ∙ append-nil (sealed_in taken)

-- and a seal after them adds one
pub sealed-seal : (taken passed : List Item) → has_seal passed ≡ false
    → sealed_in (taken ++ (passed ++ item.Seal ∷ [])) ≡ sealed_in taken ++ finished_in (taken ++ passed) ∷ []
sealed-seal taken passed none =
    ap sealed_in (sym (append_assoc taken passed (item.Seal ∷ [])))
    ∙ sealed-append [] (taken ++ passed) (item.Seal ∷ [])
    ∙ ap (λ before. before ++ finished_in (taken ++ passed) ∷ []) (sealed-passed taken passed none)

-- a seal finishes nothing
pub finished-seal : (taken passed : List Item) → finished_in (taken ++ (passed ++ item.Seal ∷ [])) ≡ finished_in (taken ++ passed)
finished-seal taken passed =
    ap finished_in (sym (append_assoc taken passed (item.Seal ∷ []))) ∙ fold-append with_item finite.empty (taken ++ passed) (item.Seal ∷ [])

-- ---- what is due at the end

due-append : (due : Bool) (xs ys : List Item) → is_due_after due (xs ++ ys) ≡ is_due_after (is_due_after due xs) ys
due-append due [] ys = refl
due-append due (item.Finished session txn ∷ xs) ys = due-append true xs ys
due-append due (item.Unknown session txn ∷ xs) ys = due-append due xs ys
due-append due (item.Seal ∷ xs) ys = due-append false xs ys
due-append due (item.End ∷ xs) ys = due-append due xs ys

-- right after a seal nothing is due
pub due-seal : (taken passed : List Item) → is_due_after true (taken ++ (passed ++ item.Seal ∷ [])) ≡ false
due-seal taken passed =
    due-append true taken (passed ++ item.Seal ∷ []) ∙ due-append (is_due_after true taken) passed (item.Seal ∷ [])

-- items without a seal finish something, and an answer is due; or they change nothing
abbrev pub Passed : Bool → Bool → Sessions → Sessions → Type 0
Passed before after old new = ((after ≡ true) × (transaction_count old < transaction_count new)) ⊎ ((after ≡ before) × (new ≡ old))

pub passed-from : (due : Bool) (s : Sessions) (passed : List Item) → has_seal passed ≡ false
    → Passed due (is_due_after due passed) s (fold with_item s passed)
passed-from due s [] none = inr (refl, refl)
passed-from due s (item.Finished session txn ∷ passed) none =
    let more = grows s session txn in
    let new = with_transaction s session txn in
    elim (passed-from true new passed none) [
      | inl rise ↦ inl (rise.0, omega (arith, more, rise.1))
      | inr same ↦ inl (same.0, omega (arith, more, ap transaction_count same.1))
    ]
passed-from due s (item.Unknown session txn ∷ passed) none = passed-from due s passed none
passed-from due s (item.Seal ∷ passed) none = cc
passed-from due s (item.End ∷ passed) none = passed-from due s passed none

pub due-passed : (taken passed : List Item) → has_seal passed ≡ false
    → Passed (is_due_after true taken) (is_due_after true (taken ++ passed)) (finished_in taken) (finished_in (taken ++ passed))
due-passed taken passed none =
    subst (λ due. Passed (is_due_after true taken) due (finished_in taken) (finished_in (taken ++ passed)))
    (sym (due-append true taken passed))
    (subst (Passed (is_due_after true taken) (is_due_after (is_due_after true taken) passed) (finished_in taken))
    (sym (fold-append with_item finite.empty taken passed))
    (passed-from (is_due_after true taken) (finished_in taken) passed none))

-- where no more transactions are finished, nothing is
pub same-passed : (taken passed : List Item) → has_seal passed ≡ false
    → transaction_count (finished_in (taken ++ passed)) ≡ transaction_count (finished_in taken) → finished_in (taken ++ passed) ≡ finished_in taken
same-passed taken passed none counted = elim (due-passed taken passed none) [
  | inl rise ↦ absurd (omega (arith, rise.1, counted))
  | inr same ↦ same.1
]

-- where an answer was due it still is
pub still_due : (taken passed : List Item) → has_seal passed ≡ false → is_due_after true taken ≡ true → is_due_after true (taken ++ passed) ≡ true
still_due taken passed none due = elim (due-passed taken passed none) [
  | inl rise ↦ rise.0
  | inr same ↦ same.0 ∙ due
]

pub at_end-due : (items : List Item) → is_due_after true items ≡ true → at_end items ≡ finished_in items ∷ []
at_end-due items due = rw due refl

pub at_end-none : (items : List Item) → is_due_after true items ≡ false → at_end items ≡ []
at_end-none items none = rw none refl

-- ---- the items of all answers

module _ (all : Answers) (taken passed : List Item) (rest ahead : Answers) (whole : all ≡ after_items taken ahead) (passes : Passes ahead passed rest) where
  pub all-items : all.items ≡ (taken ++ passed) ++ rest.items
  all-items = ap (λ (a : Answers). a.items) (whole ∙ ap (after_items taken) passes.1) ∙ sym (append_assoc taken passed rest.items)

  pub all-fault : all.fault ≡ rest.fault
  all-fault = ap (λ (a : Answers). a.fault) (whole ∙ ap (after_items taken) passes.1)

pub first-taken : (all : Answers) (taken : List Item) (ahead : Answers) → all ≡ after_items taken ahead → take (length taken) all.items ≡ taken
first-taken all taken ahead whole = ap (λ (a : Answers). take (length taken) a.items) whole ∙ take-append_seam taken ahead.items

-- ---- lists

pub AllZip-append : {A B : Type 0} (R : A → B → Type 0) (xs xs' : List A) (ys ys' : List B) → AllZip R xs ys → AllZip R xs' ys'
    → AllZip R (xs ++ xs') (ys ++ ys')
AllZip-append R [] xs' [] ys' p q = q
AllZip-append R [] xs' (y ∷ ys) ys' p q = absurd p
AllZip-append R (x ∷ xs) xs' [] ys' p q = absurd p
AllZip-append R (x ∷ xs) xs' (y ∷ ys) ys' p q = (p.0, AllZip-append R xs xs' ys ys' p.1 q)

-- each is said; and one more, which is what was said of the last of them, where that one was the same
pub AreSaid-push : (R : Sessions → Said → Type 0) (snapshots : List Sessions) (said : List Said) (s : Sessions) (one : Said)
    → AreSaid R snapshots said → R s one
    → ((before : Sessions) (other : Said) → last_or None snapshots ≡ Some before → last_or None said ≡ Some other → before ≡ s → other ≡ one)
    → AreSaid R (snapshots ++ s ∷ []) (said ++ one ∷ [])
AreSaid-push R snapshots said s one are is same =
    (AllZip-append R snapshots (s ∷ []) said (one ∷ []) are.0 (is, tt), again snapshots said are.0 are.1 same)
  where
    again : (snapshots : List Sessions) (said : List Said) → AllZip R snapshots said → AreRepeated snapshots said
        → ((before : Sessions) (other : Said) → last_or None snapshots ≡ Some before → last_or None said ≡ Some other → before ≡ s → other ≡ one)
        → AreRepeated (snapshots ++ s ∷ []) (said ++ one ∷ [])
    again [] [] all are same = (tt, tt)
    again [] (x ∷ xs) all are same = absurd all
    again (t ∷ ts) [] all are same = absurd all
    again (t ∷ []) (x ∷ []) all are same = (same t x refl refl, (tt, tt))
    again (t ∷ []) (x ∷ (y ∷ xs)) all are same = absurd all.1
    again (t ∷ (u ∷ ts)) (x ∷ []) all are same = absurd all.1
    again (t ∷ (u ∷ ts)) (x ∷ (y ∷ xs)) all are same = (are.0, again (u ∷ ts) (y ∷ xs) all.1 are.1 same)

pub last-push : {A : Type 0} (o : Option A) (xs : List A) (x : A) → last_or o (xs ++ x ∷ []) ≡ Some x
last-push o [] x = refl
last-push o (y ∷ ys) x = last-push (Some y) ys x

-- a part of a text is one of a longer text
pub part-of : (n : ℕ) (text more : List ℕ) → (k : ℕ) × (take k (text ++ more) ≡ take n text)
part-of zero text more = (0, refl)
part-of (suc n) [] more = (0, refl)
part-of (suc n) (x ∷ text) more = let part = part-of n text more in (suc part.0, ap (λ rest. x ∷ rest) part.1)
