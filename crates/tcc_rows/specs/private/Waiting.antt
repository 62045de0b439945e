-- A recording between two checkpoints, and at a checkpoint that isn't settled yet.
use Rattle.std.specs.Prelude.{ℕ, ◌≡◌, List, ◌++◌, fold, Option, None, Some, Result, Ok, Err}
use Rattle.tcc_rows.specs.Ahead.{IsAhead}
use Rattle.tcc_rows.specs.Answers.{Answers, after_item, ending, settled_behind}
use Rattle.tcc_rows.specs.Followed.{IsFollowed}
use Rattle.tcc_rows.specs.Items.{finished_in, with_item}
use Rattle.tcc_rows.specs.Recordings.{Passes, TakesCheckpoint}
use Rattle.tcc_txn.specs.Finished.{IsWithinLimits}
use Rattle.tcc_txn.specs.Snapshots.{Sessions}
use Rattle.tcc_txn.specs.declared.limits.Limits.{Limits}
use Rattle.tcc_rows.specs.declared.recording.Checkpoint.{Checkpoint}
use Rattle.tcc_rows.specs.declared.recording.Checkpoint.TheVariants as checkpoint
use Rattle.tcc_rows.specs.declared.recording.RecordingWithin.{RecordingWithin}
use Rattle.tcc_rows.specs.declared.rows.Item.{Item}
use Rattle.tcc_rows.specs.declared.rows.Item.TheVariants as item
use Rattle.tcc_rows.specs.declared.fault.RowFault.{RowFault}

-- of a recording between two checkpoints: these items were taken, and these answers are still to come
pub record IsUnderWay (limits : Limits) {R B : Type 0} (remaining : R → Option (List ℕ)) (recording : RecordingWithin R B) (taken : List Item)
    (ahead : Answers) : Type 0 where
  pub given : Answers
  pub answers : IsAhead limits remaining recording.rows given
  pub settles : ahead ≡ settled_behind recording.snapshot recording.pending.items given
  pub snapshot : recording.snapshot ≡ finished_in taken
  pub followed : IsFollowed recording.snapshot recording.pending.items recording.values
  pub limits_kept : IsWithinLimits limits (finished_in (taken ++ ahead.items))

-- the rows have come to a checkpoint after which they give this
abbrev pub given_at : Checkpoint → Answers → Answers
given_at checkpoint.Seal given = after_item (Some item.Seal) given
given_at checkpoint.End given = ending None

-- at a checkpoint: these items were passed, and what is pending isn't settled yet
pub record IsUnsettled (limits : Limits) {R B : Type 0} (remaining : R → Option (List ℕ)) (taken : List Item) (ahead : Answers) (at : Checkpoint)
    (recording : RecordingWithin R B) : Type 0 where
  pub passed : List Item
  pub given : Answers
  pub passes : Passes ahead passed (settled_behind recording.snapshot recording.pending.items (given_at at given))
  pub answers : IsAhead limits remaining recording.rows given
  pub last : at ≡ checkpoint.End → given ≡ ending None
  pub snapshot : recording.snapshot ≡ finished_in (taken ++ passed)
  pub followed : IsFollowed recording.snapshot recording.pending.items recording.values
  pub limits_kept : IsWithinLimits limits (finished_in (taken ++ ahead.items))

-- the recording went on to a checkpoint, which isn't settled yet, or to a fault
abbrev pub PassesItems : {R B : Type 0} → Limits → (R → Option (List ℕ)) → List Item → Answers → Result Checkpoint RowFault → RecordingWithin R B → Type 0
PassesItems limits remaining taken ahead (Ok at) new = IsUnsettled limits remaining taken ahead at new
PassesItems limits remaining taken ahead (Err fault) new = TakesCheckpoint limits remaining taken ahead (Err fault) new

-- the first of some items were added, and perhaps not all
abbrev pub AddsSome : Sessions → List Item → Sessions → Type 0
AddsSome old items new = (kept : List Item) × (lost : List Item) × (items ≡ kept ++ lost) × (new ≡ fold with_item old kept)
