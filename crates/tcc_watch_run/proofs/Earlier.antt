-- What is known at a checkpoint of the anomalies before it.
use Rattle.std.proofs.Common.{◌≡◌, ℕ, zero, suc, ◌<◌, ◌≤◌, Bool, true, false, List, [], ◌∷◌, ◌++◌, Option, None, Some, Ok}
use Rattle.std.proofs.Common.{refl, ap, sym, subst, ◌∙◌, arith, inl, inr, ◌⊎◌, append_assoc, append-nil}
use Rattle.std.specs.Prelude.{Contains, fold}
use Rattle.std.specs.List.{AllZip}
use Rattle.std.specs.FinMap as finite
use Rattle.std.proofs.lemmas.List.Sums.{fold-append}
use Rattle.std.proofs.lemmas.List.Elements.{Contains-append_left, Contains-append_right, Contains-append_cases}
use Rattle.tcc_rows.specs.Answers.{Answers, ending}
use Rattle.tcc_rows.specs.Items.{finished_in, with_item}
use Rattle.tcc_rows.specs.Recordings.{IsRecording, TakesCheckpoint, has_seal}
use Rattle.tcc_rows.specs.declared.recording.Checkpoint.{Checkpoint}
use Rattle.tcc_rows.specs.declared.recording.Checkpoint.TheVariants as checkpoint
use Rattle.tcc_rows.specs.declared.recording.RecordingWithin.{RecordingWithin}
use Rattle.tcc_rows.specs.declared.rows.Item.{Item}
use Rattle.tcc_rows.specs.declared.rows.Item.TheVariants as item
use Rattle.tcc_txn.specs.Finished.{transaction_count}
use Rattle.tcc_txn.specs.Snapshots.{Sessions}
use Rattle.tcc_print.specs.Courses.{Said}
use Rattle.tcc_print.specs.Checkpoints.{is_due_after, sealed_after, sealed_in}
use Rattle.tcc_print.specs.declared.previous.PreviousAnswer.{PreviousAnswer}
use Rattle.tcc_print.specs.declared.options.Options.{Options}
use Rattle.tcc_print.proofs.Counted.{grows}
use Rattle.tcc_print.proofs.Courses.{HasAnswered, IsLast}
use Rattle.tcc_print.proofs.LastSaid.{last_snapshot}
use Rattle.tcc_print.proofs.Checkpoints.{at_end-none, finished-seal}
use Rattle.tcc_watch_run.specs.Watching.{IsAnomaly, WasAnomaly, checkpoints_of}
use Rattle.tcc_watch_run.specs.declared.told.SnapshotAnswer.{SnapshotAnswer}
use Rattle.tcc_watch_run.specs.private.Stages.{IsSaidBy, Knows, KnowsLast, KnowsNow, course}

-- ---- how many transactions the snapshots at seals have

none-in : (s : Sessions) → Contains [] s → ⊥
none-in s (k, inside, is) = absurd (omega (arith, inside))

first-or : (x s : Sessions) (rest : List Sessions) → Contains (x ∷ rest) s → (s ≡ x) ⊎ Contains rest s
first-or x s rest has = go (Contains-append_cases (x ∷ []) rest s has)
  where
    one : Contains (x ∷ []) s → s ≡ x
    one (zero, inside, is) = sym is
    one (suc k, inside, is) = absurd (omega (arith, inside))

    go : Contains (x ∷ []) s ⊎ Contains rest s → (s ≡ x) ⊎ Contains rest s
    go (inl here) = inl (one here)
    go (inr later) = inr later

-- more items finish more, or nothing
pub goes_up : (s : Sessions) (items : List Item) → (transaction_count s < transaction_count (fold with_item s items)) ⊎ (fold with_item s items ≡ s)
goes_up s [] = inr refl
goes_up s (item.Finished session txn ∷ items) =
    let more = grows s session txn in
    elim (goes_up (with_item s (item.Finished session txn)) items) [
      | inl rise ↦ inl (omega (arith, more, rise))
      | inr same ↦ inl (omega (arith, more, ap transaction_count same))
    ]
goes_up s (item.Unknown session txn ∷ items) = goes_up s items
goes_up s (item.Seal ∷ items) = goes_up s items
goes_up s (item.End ∷ items) = goes_up s items

since : (before items : List Item)
    → (transaction_count (finished_in before) < transaction_count (finished_in (before ++ items))) ⊎ (finished_in (before ++ items) ≡ finished_in before)
since before items =
    subst (λ (s : Sessions). (transaction_count (finished_in before) < transaction_count s) ⊎ (s ≡ finished_in before))
    (sym (fold-append with_item finite.empty before items)) (goes_up (finished_in before) items)

pub no_fewer : (before items : List Item) → transaction_count (finished_in before) ≤ transaction_count (finished_in (before ++ items))
no_fewer before items = elim (since before items) [
  | inl rise ↦ omega (arith, rise)
  | inr same ↦ omega (arith, ap transaction_count same)
]

-- a snapshot has fewer transactions than some items finish, or is what they finish
abbrev IsWithinAll : Sessions → List Item → Type 0
IsWithinAll e all = (transaction_count e < transaction_count (finished_in all)) ⊎ (e ≡ finished_in all)

-- so it is of one at a seal among the items
in_sealed : (before items : List Item) (e : Sessions) → Contains (sealed_after before items) e → IsWithinAll e (before ++ items)
in_sealed before [] e has = absurd (none-in e has)
in_sealed before (item.Finished session txn ∷ items) e has =
    subst (IsWithinAll e)
    (append_assoc before (item.Finished session txn ∷ []) items) (in_sealed (before ++ item.Finished session txn ∷ []) items e has)
in_sealed before (item.Unknown session txn ∷ items) e has =
    subst (IsWithinAll e)
    (append_assoc before (item.Unknown session txn ∷ []) items) (in_sealed (before ++ item.Unknown session txn ∷ []) items e has)
in_sealed before (item.Seal ∷ items) e has =
    go (λ later. in_sealed (before ++ item.Seal ∷ []) items e later) (first-or (finished_in before) e (sealed_after (before ++ item.Seal ∷ []) items) has)
  where
    go : (Contains (sealed_after (before ++ item.Seal ∷ []) items) e → IsWithinAll e ((before ++ item.Seal ∷ []) ++ items))
        → (e ≡ finished_in before) ⊎ Contains (sealed_after (before ++ item.Seal ∷ []) items) e → IsWithinAll e (before ++ item.Seal ∷ items)
    go more (inl here) = elim (since before (item.Seal ∷ items)) [
      | inl rise ↦ inl (omega (arith, rise, ap transaction_count here))
      | inr same ↦ inr (here ∙ sym same)
    ]
    go more (inr later) =
        subst (IsWithinAll e)
        (append_assoc before (item.Seal ∷ []) items) (more later)
in_sealed before (item.End ∷ items) e has =
    subst (IsWithinAll e)
    (append_assoc before (item.End ∷ []) items) (in_sealed (before ++ item.End ∷ []) items e has)

-- and none fewer than what was finished before the items
after_all : (before items : List Item) (e : Sessions) → Contains (sealed_after before items) e → transaction_count (finished_in before) ≤ transaction_count e
after_all before [] e has = absurd (none-in e has)
after_all before (item.Finished session txn ∷ items) e has =
    omega (arith, no_fewer before (item.Finished session txn ∷ []), after_all (before ++ item.Finished session txn ∷ []) items e has)
after_all before (item.Unknown session txn ∷ items) e has =
    omega (arith, no_fewer before (item.Unknown session txn ∷ []), after_all (before ++ item.Unknown session txn ∷ []) items e has)
after_all before (item.Seal ∷ items) e has =
    go (λ later. after_all (before ++ item.Seal ∷ []) items e later) (first-or (finished_in before) e (sealed_after (before ++ item.Seal ∷ []) items) has)
  where
    go : (Contains (sealed_after (before ++ item.Seal ∷ []) items) e → transaction_count (finished_in (before ++ item.Seal ∷ [])) ≤ transaction_count e)
        → (e ≡ finished_in before) ⊎ Contains (sealed_after (before ++ item.Seal ∷ []) items) e
        → transaction_count (finished_in before) ≤ transaction_count e
    go more (inl here) = omega (arith, ap transaction_count here)
    go more (inr later) = omega (arith, no_fewer before (item.Seal ∷ []), more later)
after_all before (item.End ∷ items) e has =
    omega (arith, no_fewer before (item.End ∷ []), after_all (before ++ item.End ∷ []) items e has)

-- nor fewer than what is finished by the next of them that have no seal
after_passed : (before passed rest : List Item) (e : Sessions) → has_seal passed ≡ false → Contains (sealed_after before (passed ++ rest)) e
    → transaction_count (finished_in (before ++ passed)) ≤ transaction_count e
after_passed before [] rest e none has =
    subst (λ (all : List Item). transaction_count (finished_in all) ≤ transaction_count e) (sym (append-nil before)) (after_all before rest e has)
after_passed before (item.Finished session txn ∷ passed) rest e none has =
    subst (λ (all : List Item). transaction_count (finished_in all) ≤ transaction_count e) (append_assoc before (item.Finished session txn ∷ []) passed)
    (after_passed (before ++ item.Finished session txn ∷ []) passed rest e none has)
after_passed before (item.Unknown session txn ∷ passed) rest e none has =
    subst (λ (all : List Item). transaction_count (finished_in all) ≤ transaction_count e) (append_assoc before (item.Unknown session txn ∷ []) passed)
    (after_passed (before ++ item.Unknown session txn ∷ []) passed rest e none has)
after_passed before (item.Seal ∷ passed) rest e none has = cc
after_passed before (item.End ∷ passed) rest e none has =
    subst (λ (all : List Item). transaction_count (finished_in all) ≤ transaction_count e) (append_assoc before (item.End ∷ []) passed)
    (after_passed (before ++ item.End ∷ []) passed rest e none has)

-- the seals among items are those among the first of them, and among the others
sealed_in_parts : (before xs ys : List Item) → sealed_after before (xs ++ ys) ≡ sealed_after before xs ++ sealed_after (before ++ xs) ys
sealed_in_parts before [] ys = ap (λ b. sealed_after b ys) (sym (append-nil before))
sealed_in_parts before (item.Finished session txn ∷ xs) ys =
    sealed_in_parts (before ++ item.Finished session txn ∷ []) xs ys
    ∙ ap (λ b. sealed_after (before ++ item.Finished session txn ∷ []) xs ++ sealed_after b ys) (append_assoc before (item.Finished session txn ∷ []) xs)
sealed_in_parts before (item.Unknown session txn ∷ xs) ys =
    sealed_in_parts (before ++ item.Unknown session txn ∷ []) xs ys
    ∙ ap (λ b. sealed_after (before ++ item.Unknown session txn ∷ []) xs ++ sealed_after b ys) (append_assoc before (item.Unknown session txn ∷ []) xs)
sealed_in_parts before (item.Seal ∷ xs) ys =
    ap (λ rest. finished_in before ∷ rest)
    (sealed_in_parts (before ++ item.Seal ∷ []) xs ys
    ∙ ap (λ b. sealed_after (before ++ item.Seal ∷ []) xs ++ sealed_after b ys) (append_assoc before (item.Seal ∷ []) xs))
sealed_in_parts before (item.End ∷ xs) ys =
    sealed_in_parts (before ++ item.End ∷ []) xs ys
    ∙ ap (λ b. sealed_after (before ++ item.End ∷ []) xs ++ sealed_after b ys) (append_assoc before (item.End ∷ []) xs)

-- the snapshot at the last seal is one of those at seals
last_in : (taken : List Item) → is_due_after true taken ≡ false → Contains (sealed_in taken) (finished_in taken)
last_in taken none =
    let (front, is) = last_snapshot taken in
    let all : sealed_in taken ≡ front ++ finished_in taken ∷ []
    = sym (append-nil (sealed_in taken)) ∙ ap (λ end. sealed_in taken ++ end) (sym (at_end-none taken none)) ∙ is in
    subst (λ (l : List Sessions). Contains l (finished_in taken)) (sym all)
    (Contains-append_right front (finished_in taken ∷ []) (finished_in taken) (0, omega arith, refl))

none_said : (R : Sessions → Said → Type 0) (snapshots : List Sessions) → AllZip R snapshots [] → snapshots ≡ []
none_said R [] all = refl
none_said R (x ∷ snapshots) all = absurd all

-- ---- at the checkpoint that comes

module _ {R B : Type 0} (remaining : R → Option (List ℕ)) (quiet : Bool) (options : Options) (text : List ℕ) (old : RecordingWithin R B) (before now : Option (List ℕ))
    (answered : Option (PreviousAnswer SnapshotAnswer)) (way : HasAnswered remaining (course quiet options (checkpoints_of text)) text old before now answered) where
  abbrev ahead : List Sessions
  ahead = sealed_after way.taken way.ahead.items

  parts : checkpoints_of text ≡ sealed_in way.taken ++ ahead
  parts = ap (λ (a : Answers). sealed_in a.items) way.whole ∙ sealed_in_parts [] way.taken way.ahead.items

  module _ (s : Sessions) (later : (e : Sessions) → Contains ahead e → transaction_count s ≤ transaction_count e)
      (more : transaction_count (finished_in way.taken) ≤ transaction_count s) where
    -- what is known of the last checkpoint says what is known of this one
    known_now : (b : Bool) → is_due_after true way.taken ≡ false → transaction_count (finished_in way.taken) < transaction_count s
        → KnowsNow options (checkpoints_of text) (finished_in way.taken) b → Knows options (checkpoints_of text) s b
    known_now true none less (inl here) = (
      finished_in way.taken,
      subst (λ (l : List Sessions). Contains l (finished_in way.taken)) (sym parts)
          (Contains-append_left (sealed_in way.taken) ahead (finished_in way.taken) (last_in way.taken none)),
      less,
      here,
    )
    known_now true none less (inr (e, has, fewer, is)) = (e, has, omega (arith, fewer, less), is)
    known_now false none less (not_here, never) = λ (e, has, fewer, is).
        by e fewer is has (Contains-append_cases (sealed_in way.taken) ahead e (subst (λ (l : List Sessions). Contains l e) parts has))
      where
        by : (e : Sessions) → transaction_count e < transaction_count s → IsAnomaly options e → Contains (checkpoints_of text) e
            → Contains (sealed_in way.taken) e ⊎ Contains ahead e → ⊥
        by e fewer is has (inl past) = elim (in_sealed [] way.taken e past) [
          | inl less ↦ never (e, has, less, is)
          | inr same ↦ not_here (subst (λ (z : Sessions). IsAnomaly options z) same is)
        ]
        by e fewer is has (inr past) = absurd (omega (arith, fewer, later e past))

    none_yet : way.said ≡ [] → WasAnomaly options (checkpoints_of text) s → ⊥
    none_yet nil (e, has, fewer, is) = by (Contains-append_cases (sealed_in way.taken) ahead e (subst (λ (l : List Sessions). Contains l e) parts has))
      where
        empty : sealed_in way.taken ≡ []
        empty =
            none_said (IsSaidBy quiet options (checkpoints_of text)) (sealed_in way.taken)
            (subst (λ (l : List Said). AllZip (IsSaidBy quiet options (checkpoints_of text)) (sealed_in way.taken) l) nil way.answers.0)

        by : Contains (sealed_in way.taken) e ⊎ Contains ahead e → ⊥
        by (inl past) = none-in e (subst (λ (l : List Sessions). Contains l e) empty past)
        by (inr past) = absurd (omega (arith, fewer, later e past))

    knows : KnowsLast options (checkpoints_of text) s answered
    knows = by answered way.last
      where
        by : (o : Option (PreviousAnswer SnapshotAnswer)) → IsLast (course quiet options (checkpoints_of text)) o way.taken way.said → KnowsLast options (checkpoints_of text) s o
        by None known apart = none_yet known.1
        by (Some last) known apart =
            known_now last.outcome.has_told known.0 (omega (arith, more, known.1.0, apart)) known.1.1.1

  -- the result of the recording there
  pub knows_at : (new : RecordingWithin R B) (m : Checkpoint)
      → ((taken : List Item) (ahead : Answers) → IsRecording (course quiet options (checkpoints_of text)).limits remaining old taken ahead
      → TakesCheckpoint (course quiet options (checkpoints_of text)).limits remaining taken ahead (Ok m) new)
      → (s : Sessions) → ((taken : List Item) (ahead : Answers) → IsRecording (course quiet options (checkpoints_of text)).limits remaining new taken ahead → s ≡ finished_in taken)
      → KnowsLast options (checkpoints_of text) s answered
  knows_at new m takes s finished = by m (takes way.taken way.ahead way.recorded)
    where
      next : (passed : List Item) (rest : Answers) → has_seal passed ≡ false → way.ahead.items ≡ passed ++ rest.items → s ≡ finished_in (way.taken ++ passed)
          → KnowsLast options (checkpoints_of text) s answered
      next passed rest none is same =
          knows s
          (λ e has. subst (λ (z : Sessions). transaction_count z ≤ transaction_count e) (sym same)
          (after_passed way.taken passed rest.items e none (subst (λ (l : List Item). Contains (sealed_after way.taken l) e) is has)))
          (subst (λ (z : Sessions). transaction_count (finished_in way.taken) ≤ transaction_count z) (sym same) (no_fewer way.taken passed))

      by : (n : Checkpoint) → TakesCheckpoint (course quiet options (checkpoints_of text)).limits remaining way.taken way.ahead (Ok n) new → KnowsLast options (checkpoints_of text) s answered
      by checkpoint.Seal (passed, rest, passes, recording) =
          next passed (record { items = item.Seal ∷ rest.items; fault = rest.fault }) passes.0 (ap (λ (a : Answers). a.items) passes.1)
          (finished _ rest recording ∙ finished-seal way.taken passed)
      by checkpoint.End (passed, passes, recording) =
          next passed (ending None) passes.0 (ap (λ (a : Answers). a.items) passes.1) (finished _ (ending None) recording)
