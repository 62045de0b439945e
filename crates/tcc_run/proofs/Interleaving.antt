-- Two inputs that finish the same before each seal, and in the end, get the same answers.
use Rattle.std.proofs.Common.{◌≡◌, ℕ, zero, suc, inl, inr, Bool, false, true, List, [], ◌∷◌, ◌++◌, length, None, refl, sym, ap, subst, ◌∙◌, arith}
use Rattle.std.proofs.Common.{append_assoc, append-nil}
use Rattle.std.specs.Prelude.{fold, if◌then◌else◌}
use Rattle.std.specs.FinMap as finite
use Rattle.tcc_rows.specs.Answers as rows
use Rattle.tcc_rows.specs.Items.{finished_in, with_item}
use Rattle.tcc_rows.specs.Recordings.{has_seal, items_until, seals_in}
use Rattle.tcc_txn.specs.Finished.{transaction_count, with_transaction}
use Rattle.tcc_txn.specs.Snapshots.{Sessions}
use Rattle.tcc_txn.specs.Transactions.{Transaction}
use Rattle.tcc_rows.specs.declared.rows.Item.{Item}
use Rattle.tcc_rows.specs.declared.rows.Item.TheVariants as item
use Rattle.tcc_print.specs.declared.options.Options.{Options}
use Rattle.tcc_print.specs.Courses.{AreSaid, Said}
use Rattle.tcc_run.specs.Runs.{IsSaidOfSnapshot, IsWholeRun}
use Rattle.tcc_print.specs.Checkpoints.{at_end, is_due_after, sealed_after, sealed_in}
use Rattle.tcc_print.proofs.Checkpoints.{Passed, passed-from}

-- ---- the items before a seal

until-finished : (session : List ℕ) (txn : Transaction) (items : List Item) (k : ℕ)
    → items_until (item.Finished session txn ∷ items) k ≡ item.Finished session txn ∷ items_until items k
until-finished session txn items zero = refl
until-finished session txn items (suc k) = refl

until-unknown : (session : List ℕ) (txn : Transaction) (items : List Item) (k : ℕ)
    → items_until (item.Unknown session txn ∷ items) k ≡ item.Unknown session txn ∷ items_until items k
until-unknown session txn items zero = refl
until-unknown session txn items (suc k) = refl

until-end : (items : List Item) (k : ℕ) → items_until (item.End ∷ items) k ≡ item.End ∷ items_until items k
until-end items zero = refl
until-end items (suc k) = refl

-- where there are no more seals, all items come before
until-all : (items : List Item) → items_until items (length (seals_in items)) ≡ items
until-all [] = refl
until-all (item.Finished session txn ∷ items) =
    until-finished session txn items (length (seals_in items)) ∙ ap (λ rest. item.Finished session txn ∷ rest) (until-all items)
until-all (item.Unknown session txn ∷ items) =
    until-unknown session txn items (length (seals_in items)) ∙ ap (λ rest. item.Unknown session txn ∷ rest) (until-all items)
until-all (item.Seal ∷ items) = ap (λ rest. item.Seal ∷ rest) (until-all items)
until-all (item.End ∷ items) = until-end items (length (seals_in items)) ∙ ap (λ rest. item.End ∷ rest) (until-all items)

unsealed : (items : List Item) → seals_in items ≡ [] → has_seal items ≡ false
unsealed [] none = refl
unsealed (item.Finished session txn ∷ items) none = unsealed items none
unsealed (item.Unknown session txn ∷ items) none = unsealed items none
unsealed (item.Seal ∷ items) none = cc
unsealed (item.End ∷ items) none = unsealed items none

-- ---- what is answered at the seals

-- one for each of the seals
abbrev at_seals : (ℕ → Sessions) → List Item → List Sessions
at_seals f [] = []
at_seals f (seal ∷ seals) = f 0 ∷ at_seals (λ k. f (suc k)) seals

at_seals-same : (f g : ℕ → Sessions) (seals : List Item) → ((k : ℕ) → f k ≡ g k) → at_seals f seals ≡ at_seals g seals
at_seals-same f g [] same = refl
at_seals-same f g (seal ∷ seals) same =
    ap (λ first. first ∷ at_seals (λ k. f (suc k)) seals) (same 0)
    ∙ ap (λ rest. g 0 ∷ rest) (at_seals-same (λ k. f (suc k)) (λ k. g (suc k)) seals (λ k. same (suc k)))

sealed-until : (before items : List Item) → sealed_after before items ≡ at_seals (λ k. finished_in (before ++ items_until items k)) (seals_in items)
sealed-until before [] = refl
sealed-until before (item.Finished session txn ∷ items) =
    sealed-until (before ++ item.Finished session txn ∷ []) items
    ∙ at_seals-same (λ k. finished_in ((before ++ item.Finished session txn ∷ []) ++ items_until items k))
    (λ k. finished_in (before ++ items_until (item.Finished session txn ∷ items) k)) (seals_in items)
    (λ k. ap finished_in (append_assoc before (item.Finished session txn ∷ []) (items_until items k)
    ∙ ap (λ rest. before ++ rest) (sym (until-finished session txn items k))))
sealed-until before (item.Unknown session txn ∷ items) =
    sealed-until (before ++ item.Unknown session txn ∷ []) items
    ∙ at_seals-same (λ k. finished_in ((before ++ item.Unknown session txn ∷ []) ++ items_until items k))
    (λ k. finished_in (before ++ items_until (item.Unknown session txn ∷ items) k)) (seals_in items)
    (λ k. ap finished_in (append_assoc before (item.Unknown session txn ∷ []) (items_until items k)
    ∙ ap (λ rest. before ++ rest) (sym (until-unknown session txn items k))))
sealed-until before (item.Seal ∷ items) =
    ap (λ rest. finished_in before ∷ rest)
    (sealed-until (before ++ item.Seal ∷ []) items
    ∙ at_seals-same (λ k. finished_in ((before ++ item.Seal ∷ []) ++ items_until items k)) (λ k. finished_in (before ++ item.Seal ∷ items_until items k))
    (seals_in items) (λ k. ap finished_in (append_assoc before (item.Seal ∷ []) (items_until items k))))
    ∙ ap (λ first. finished_in first ∷ at_seals (λ k. finished_in (before ++ item.Seal ∷ items_until items k)) (seals_in items)) (sym (append-nil before))
sealed-until before (item.End ∷ items) =
    sealed-until (before ++ item.End ∷ []) items
    ∙ at_seals-same (λ k. finished_in ((before ++ item.End ∷ []) ++ items_until items k))
    (λ k. finished_in (before ++ items_until (item.End ∷ items) k)) (seals_in items)
    (λ k. ap finished_in (append_assoc before (item.End ∷ []) (items_until items k) ∙ ap (λ rest. before ++ rest) (sym (until-end items k))))

-- ---- whether an answer is due at the end

-- something was finished since the last seal, and an answer is due; or nothing was
due-since : (due : Bool) (s : Sessions) (items : List Item) (first : Item) (seals : List Item) → seals_in items ≡ first ∷ seals
    → Passed false (is_due_after due items) (fold with_item s (items_until items (length seals))) (fold with_item s items)
due-since due s [] first seals is = cc
due-since due s (item.Finished session txn ∷ items) first seals is =
    subst (λ until. Passed false (is_due_after true items) (fold with_item s until) (fold with_item (with_transaction s session txn) items))
    (sym (until-finished session txn items (length seals))) (due-since true (with_transaction s session txn) items first seals is)
due-since due s (item.End ∷ items) first seals is =
    subst (λ until. Passed false (is_due_after due items) (fold with_item s until) (fold with_item s items)) (sym (until-end items (length seals)))
    (due-since due s items first seals is)
due-since due s (item.Unknown session txn ∷ items) first seals is =
    subst (λ until. Passed false (is_due_after due items) (fold with_item s until) (fold with_item s items))
    (sym (until-unknown session txn items (length seals))) (due-since due s items first seals is)
due-since due s (item.Seal ∷ items) first seals is = by (seals_in items) refl (due-since false s items)
  where
    behind : seals ≡ seals_in items
    behind = cc is

    by : (rest : List Item) → seals_in items ≡ rest
        → ((next : Item) (more : List Item) → seals_in items ≡ next ∷ more
        → Passed false (is_due_after false items) (fold with_item s (items_until items (length more))) (fold with_item s items))
        → Passed false (is_due_after false items) (fold with_item s (items_until (item.Seal ∷ items) (length seals))) (fold with_item s items)
    by [] none later =
        subst (λ rest. Passed false (is_due_after false items) (fold with_item s (items_until (item.Seal ∷ items) (length rest))) (fold with_item s items))
        (sym (behind ∙ none)) (passed-from false s items (unsealed items none))
    by (next ∷ more) some later =
        subst (λ rest. Passed false (is_due_after false items) (fold with_item s (items_until (item.Seal ∷ items) (length rest))) (fold with_item s items))
        (sym (behind ∙ some)) (later next more some)

-- ---- alike

module _ (items others : List Item) (seals : seals_in items ≡ seals_in others)
    (same : (k : ℕ) → finished_in (items_until items k) ≡ finished_in (items_until others k)) where
  sealed-alike : sealed_in items ≡ sealed_in others
  sealed-alike =
      sealed-until [] items
      ∙ at_seals-same (λ k. finished_in (items_until items k)) (λ k. finished_in (items_until others k)) (seals_in items) same
      ∙ ap (at_seals (λ k. finished_in (items_until others k))) seals
      ∙ sym (sealed-until [] others)

  finished-alike : finished_in items ≡ finished_in others
  finished-alike =
      ap finished_in (sym (until-all items))
      ∙ same (length (seals_in items))
      ∙ ap (λ sealed. finished_in (items_until others (length sealed))) seals
      ∙ ap finished_in (until-all others)

  due-unsealed : (some : List Item) → seals_in some ≡ [] → is_due_after true some ≡ true
  due-unsealed some none = elim (passed-from true finite.empty some (unsealed some none)) [
    | inl rise ↦ rise.0
    | inr still ↦ still.0
  ]

  due-alike : is_due_after true items ≡ is_due_after true others
  due-alike = by (seals_in items) refl
    where
      by : (rest : List Item) → seals_in items ≡ rest → is_due_after true items ≡ is_due_after true others
      by [] none = due-unsealed items none ∙ sym (due-unsealed others (sym seals ∙ none))
      by (first ∷ rest) some =
          let until = ap transaction_count (same (length rest)) in
          let all = ap transaction_count finished-alike in
          elim (due-since true finite.empty items first rest some) [
            | inl rise ↦ elim (due-since true finite.empty others first rest (sym seals ∙ some)) [
              | inl too ↦ rise.0 ∙ sym too.0
              | inr still ↦ absurd (omega (arith, rise.1, until, all, ap transaction_count still.1))
            ]
            | inr still ↦ elim (due-since true finite.empty others first rest (sym seals ∙ some)) [
              | inl rise ↦ absurd (omega (arith, rise.1, until, all, ap transaction_count still.1))
              | inr too ↦ still.0 ∙ sym too.0
            ]
          ]

  ended-alike : at_end items ≡ at_end others
  ended-alike =
      ap (λ due. if due then finished_in items ∷ [] else []) due-alike
      ∙ ap (λ s. if is_due_after true others then s ∷ [] else []) finished-alike

  pub answered-alike : sealed_in items ++ at_end items ≡ sealed_in others ++ at_end others
  answered-alike = ap (λ sealed. sealed ++ at_end items) sealed-alike ∙ ap (λ ended. sealed_in others ++ ended) ended-alike

-- so what a whole run says for one of them, it says for the other, if that has no fault
pub whole-alike : (options : Options) (all more : rows.Answers) (said : List Said)
    → sealed_in all.items ++ at_end all.items ≡ sealed_in more.items ++ at_end more.items
    → more.fault ≡ None → IsWholeRun options all said → IsWholeRun options more said
whole-alike options all more said same clean is = (clean, subst (λ snapshots. AreSaid (IsSaidOfSnapshot options) snapshots said) same is.1)
