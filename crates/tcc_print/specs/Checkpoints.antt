-- Which items a run answers for: at each seal those before it, and at the end all.
use Rattle.std.specs.Prelude.{Bool, true, false, List, [], ◌∷◌, ◌++◌, if◌then◌else◌}
use Rattle.tcc_rows.specs.Items.{finished_in}
use Rattle.tcc_txn.specs.Snapshots.{Sessions}
use Rattle.tcc_rows.specs.declared.rows.Item.{Item}
use Rattle.tcc_rows.specs.declared.rows.Item.TheVariants as item

-- what was finished before each seal among items that come after others
abbrev pub sealed_after : List Item → List Item → List Sessions
sealed_after before [] = []
sealed_after before (item.Finished session txn ∷ items) = sealed_after (before ++ item.Finished session txn ∷ []) items
sealed_after before (item.Unknown session txn ∷ items) = sealed_after (before ++ item.Unknown session txn ∷ []) items
sealed_after before (item.Seal ∷ items) = finished_in before ∷ sealed_after (before ++ item.Seal ∷ []) items
sealed_after before (item.End ∷ items) = sealed_after (before ++ item.End ∷ []) items

-- what was finished before each seal
abbrev pub sealed_in : List Item → List Sessions
sealed_in items = sealed_after [] items

-- whether an answer is due after the items: something was finished since the last seal, or there was none and one was due before
abbrev pub is_due_after : Bool → List Item → Bool
is_due_after due [] = due
is_due_after due (item.Finished session txn ∷ items) = is_due_after true items
is_due_after due (item.Unknown session txn ∷ items) = is_due_after due items
is_due_after due (item.Seal ∷ items) = is_due_after false items
is_due_after due (item.End ∷ items) = is_due_after due items

-- what was finished before the end, unless there was a seal and nothing was finished since the last one
abbrev pub at_end : List Item → List Sessions
at_end items = if is_due_after true items then finished_in items ∷ [] else []
