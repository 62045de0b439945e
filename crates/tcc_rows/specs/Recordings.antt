-- How a recording relates to the items that it has taken and to the answers that are still to come.
use Rattle.std.specs.Prelude.{ℕ, zero, suc, ◌+◌, ◌≡◌, ◌≤◌, ◌⊎◌, Bool, true, false, if◌then◌else◌, List, [], ◌∷◌, ◌++◌, length, filter, Option, None, Some, Result, Ok, Err}
use Rattle.std.specs.List.{list_any}
use Rattle.tcc_rows.specs.Ahead.{IsAhead, IsFailure, has_ended}
use Rattle.tcc_rows.specs.Answers.{Answers, answers_after_within, answers_within, ending, records_within, settled_behind}
use Rattle.tcc_rows.specs.Failing.{FailsAtWithin, given_before_within, items_before_within}
use Rattle.tcc_rows.specs.Followed.{IsFollowed}
use Rattle.tcc_txn.specs.Finished.{IsWithinLimits}
use Rattle.tcc_rows.specs.Items.{finished_in}
use Rattle.tcc_rows.specs.Lines.{Record}
use Rattle.tcc_txn.specs.Snapshots.{Sessions}
use Rattle.tcc_txn.specs.declared.limits.Limits.{Limits}
use Rattle.tcc_rows.specs.declared.recording.Checkpoint.{Checkpoint}
use Rattle.tcc_rows.specs.declared.recording.Checkpoint.TheVariants as checkpoint
use Rattle.tcc_rows.specs.declared.recording.RecordingWithin.{RecordingWithin}
use Rattle.tcc_rows.specs.declared.rows.RowsStage.TheVariants as stage
use Rattle.tcc_rows.specs.declared.rows.Item.{Item}
use Rattle.tcc_rows.specs.declared.rows.Item.TheVariants as item
use Rattle.tcc_rows.specs.declared.fault.RowFault.{RowFault}
use Rattle.tcc_rows.specs.declared.fault.RowFaultKind.TheVariants as kind

abbrev pub is_seal : Item → Bool
is_seal (item.Finished session txn) = false
is_seal (item.Unknown session txn) = false
is_seal item.Seal = true
is_seal item.End = false

abbrev pub has_seal : List Item → Bool
has_seal items = list_any is_seal items

-- the seals among the items
abbrev pub seals_in : List Item → List Item
seals_in items = filter is_seal items

-- the items before the k-th seal, counted from 0; all if there are at most k
abbrev pub items_until : List Item → ℕ → List Item
items_until [] k = []
items_until (first ∷ rest) zero = if is_seal first then [] else first ∷ items_until rest zero
items_until (first ∷ rest) (suc k) = first ∷ (if is_seal first then items_until rest k else items_until rest (suc k))

-- some items before other answers
abbrev pub after_items : List Item → Answers → Answers
after_items items rest = record { items = items ++ rest.items; fault = rest.fault }

-- nothing was taken yet, or a seal was taken last
abbrev pub IsAtCheckpoint : List Item → Type 0
IsAtCheckpoint taken = (taken ≡ []) ⊎ ((front : List Item) × (taken ≡ front ++ item.Seal ∷ []))

-- These items were taken, the snapshot is that of what they finish, and these answers are still to come, all under the limits.
-- While there may be more records, the recording is at a seal, or at its beginning. After the end nothing is pending. What is
-- kept of the values of pending transactions is right.
pub record IsRecording (limits : Limits) {R B : Type 0} (remaining : R → Option (List ℕ)) (recording : RecordingWithin R B) (taken : List Item)
    (ahead : Answers) : Type 0 where
  pub given : Answers
  pub answers : IsAhead limits remaining recording.rows given
  pub settles : ahead ≡ settled_behind recording.snapshot recording.pending.items given
  pub snapshot : recording.snapshot ≡ finished_in taken
  pub limits_kept : IsWithinLimits limits (finished_in (taken ++ ahead.items))
  pub checkpoint : recording.rows.stage ≡ stage.Reading → IsAtCheckpoint taken
  pub closed : has_ended recording.rows ≡ true → recording.pending.items ≡ []
  pub followed : IsFollowed recording.snapshot recording.pending.items recording.values

-- the answers to come begin with these items, which have no seal, and then others follow
abbrev pub Passes : Answers → List Item → Answers → Type 0
Passes ahead passed rest = (has_seal passed ≡ false) × (ahead ≡ after_items passed rest)

-- the fault among the answers was reached after all items; or the reader failed or memory was refused after some, the last of
-- which the snapshot may lack
abbrev pub StopsWith : {R B : Type 0} → Limits → (R → Option (List ℕ)) → List Item → List Item → Answers → RowFault → RecordingWithin R B → Type 0
StopsWith limits remaining taken passed rest fault new =
    ((rest ≡ ending (Some fault)) × IsRecording limits remaining new (taken ++ passed) (ending (Some fault)))
    ⊎ (IsFailure fault.kind × (kept : List Item) × (lost : List Item) × (passed ≡ kept ++ lost)
    × IsRecording limits remaining new (taken ++ kept) (ending (Some fault)))

-- the recording went on to the next seal, to the end or to a fault
abbrev pub TakesCheckpoint : {R B : Type 0} → Limits → (R → Option (List ℕ)) → List Item → Answers → Result Checkpoint RowFault → RecordingWithin R B → Type 0
TakesCheckpoint limits remaining taken ahead (Ok checkpoint.Seal) new = (passed : List Item) × (rest : Answers)
    × Passes ahead passed (after_items (item.Seal ∷ []) rest) × IsRecording limits remaining new (taken ++ (passed ++ item.Seal ∷ [])) rest
TakesCheckpoint limits remaining taken ahead (Ok checkpoint.End) new = (passed : List Item)
    × Passes ahead passed (ending None) × IsRecording limits remaining new (taken ++ passed) (ending None)
TakesCheckpoint limits remaining taken ahead (Err fault) new = (passed : List Item) × (rest : Answers)
    × Passes ahead passed rest × StopsWith limits remaining taken passed rest fault new

-- the reading fails at a row, and the items of the records before it are these and then some without a seal
abbrev pub FailsBehind : Limits → List Item → ℕ → List Record → Type 0
FailsBehind limits taken row all =
    FailsAtWithin limits row all × (passed : List Item) × (has_seal passed ≡ false) × (items_before_within limits row all ≡ taken ++ passed)

-- the seals of all records are those before a row, and then those among the answers to come
abbrev pub HasSealsBefore : Limits → ℕ → List Record → Answers → Type 0
HasSealsBefore limits row all ahead =
    seals_in (answers_after_within limits [] all).items ≡ seals_in (given_before_within limits row all) ++ seals_in ahead.items

-- The result of reading a text: the snapshot of all that its records finish if they have no fault, else the fault. Or its
-- reading failed after lawful records, or memory was refused at some record.
abbrev pub IsRecorded : Limits → List ℕ → Result Sessions RowFault → Type 0
IsRecorded limits text (Ok s) = ((answers_within limits text).fault ≡ None) × (s ≡ finished_in (answers_within limits text).items)
IsRecorded limits text (Err fault) =
    ((answers_within limits text).fault ≡ Some fault)
    ⊎ (((fault.kind ≡ kind.Read) × FailsAtWithin limits fault.row (records_within limits text))
    ⊎ ((fault.kind ≡ kind.NoMemory) × (fault.row ≤ length (records_within limits text) + 1)))
