-- At which row the reading of a text's records fails: which of them were judged before, with what result.
use Rattle.std.specs.Prelude.{ℕ, ◌+◌, ◌-◌, ◌≡◌, ◌≤◌, false, List, [], ◌∷◌, length, take, Ok}
use Rattle.std.specs.FinMap.{empty}
use Rattle.tcc_rows.specs.Answers.{answers_after_within, judged_within}
use Rattle.tcc_rows.specs.Settling.{settled_after}
use Rattle.tcc_rows.specs.Lines.{Record}
use Rattle.tcc_txn.specs.declared.limits.Limits.{Limits}
use Rattle.tcc_txn.specs.declared.limits.Limits.TheVariants.{Small}
use Rattle.tcc_rows.specs.declared.rows.Item.{Item}
use Rattle.tcc_rows.specs.Line.{Line}

-- each of the records is lawful after those before it and these lines
abbrev pub AreLawfulWithin : Limits → List Line → List Record → Type 0
AreLawfulWithin limits past [] = Unit {0}
AreLawfulWithin limits past (fields ∷ rest) =
    (last : Line) × (judged_within limits past fields ≡ Ok last) × AreLawfulWithin limits (last ∷ past) rest

-- the records before a row, counted from 1
abbrev pub records_before : ℕ → List Record → List Record
records_before row all = take (row - 1) all

-- what the records before a row give one by one
abbrev pub given_before_within : Limits → ℕ → List Record → List Item
given_before_within limits row all = (answers_after_within limits [] (records_before row all)).items

-- the items of the records before a row
abbrev pub items_before_within : Limits → ℕ → List Record → List Item
items_before_within limits row all = settled_after false empty [] (given_before_within limits row all)

-- all records before the row were judged, and are lawful: the row is that of one more, whose reading fails
abbrev pub FailsAtWithin : Limits → ℕ → List Record → Type 0
FailsAtWithin limits row all = (row ≤ length all + 1) × AreLawfulWithin limits [] (records_before row all)

-- ---- what fails under the small limits

abbrev pub AreLawful : List Line → List Record → Type 0
AreLawful = AreLawfulWithin Small

abbrev pub items_before : ℕ → List Record → List Item
items_before = items_before_within Small

abbrev pub FailsAt : ℕ → List Record → Type 0
FailsAt = FailsAtWithin Small
