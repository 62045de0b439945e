-- The answers to a list of records: what the records finish, in order, and the seals, and then the end or the first fault.
use Rattle.std.specs.Prelude.{ℕ, ◌+◌, if◌then◌else◌, List, [], ◌∷◌, length, Option, None, Some, Result, Ok, Err, is_none, option_map}
use Rattle.std.specs.FinMap.{empty}
use Rattle.std.specs.Option.{option_map_or}
use Rattle.csv.specs.Reading.{default_config, records, strip_bom}
use Rattle.tcc_rows.specs.ByteLimit.{marked}
use Rattle.tcc_txn.specs.Limits.{most_bytes}
use Rattle.tcc_rows.specs.Lines.{Record, is_cut, line_of}
use Rattle.tcc_rows.specs.Past.{fault_within, item_of, least, open_sessions}
use Rattle.tcc_rows.specs.Settling.{Pending, settled_after}
use Rattle.tcc_txn.specs.Snapshots.{Sessions}
use Rattle.tcc_txn.specs.declared.limits.Limits.{Limits}
use Rattle.tcc_txn.specs.declared.limits.Limits.TheVariants.{Small}
use Rattle.tcc_rows.specs.declared.rows.Item.{Item}
use Rattle.tcc_rows.specs.declared.fault.RowFault.{RowFault}
use Rattle.tcc_rows.specs.declared.fault.RowFaultKind.{RowFaultKind}
use Rattle.tcc_rows.specs.declared.fault.RowFaultKind.TheVariants as kind
use Rattle.tcc_rows.specs.Line.{Line}

-- the items, and then the fault, or the end if there is none
pub record Answers : Type 0 where
  pub items : List Item
  pub fault : Option RowFault

-- no item is left
abbrev pub ending : Option RowFault → Answers
ending fault = record { items = []; fault = fault }

-- an item, if there is one, before others
abbrev pub after_item : Option Item → Answers → Answers
after_item None rest = rest
after_item (Some first) rest = record { items = first ∷ rest.items; fault = rest.fault }

-- the line of a record after others, or the least kind of its faults; the reader gives up in a record that the limit cuts
abbrev pub judged_within : Limits → List Line → Record → Result Line RowFaultKind
judged_within limits past fields = if is_cut fields then Err kind.Read else after (line_of fields)
  where
    after : Result Line RowFaultKind → Result Line RowFaultKind
    after (Ok last) = option_map_or Err (fault_within limits past last) (Ok last)
    after (Err k) = Err k

-- the fault at the end of the records, whose row is that of the last one
abbrev pub fault_at_end : List Line → Option RowFault
fault_at_end past = option_map (λ session. record { row = length past; kind = kind.Unfinished session }) (least (open_sessions past))

abbrev pub go_on : List Line → (List Line → Answers) → Result Line RowFaultKind → Answers
go_on past more (Ok last) = after_item (item_of past last) (more (last ∷ past))
go_on past more (Err k) = ending (Some (record { row = length past + 1; kind = k }))

-- what the records that follow lawful lines give one by one, in the order of their last records; newest line first
abbrev pub answers_after_within : Limits → List Line → List Record → Answers
answers_after_within limits past [] = ending (fault_at_end past)
answers_after_within limits past (fields ∷ rest) = go_on past (λ lines. answers_after_within limits lines rest) (judged_within limits past fields)

-- the records of a text: those of `csv` without a header row, up to the limit on bytes
abbrev pub records_within : Limits → List ℕ → List Record
records_within limits text = records default_config (strip_bom (marked (most_bytes limits) text))

-- what the records of a text give one by one
abbrev pub given_within : Limits → List ℕ → Answers
given_within limits text = answers_after_within limits [] (records_within limits text)

-- answers in which those of unknown outcome are settled, when `s` is finished before and these are pending
abbrev pub settled_behind : Sessions → Pending → Answers → Answers
settled_behind s pending given = record { items = settled_after (is_none given.fault) s pending given.items; fault = given.fault }

abbrev pub settled : Answers → Answers
settled given = settled_behind empty [] given

-- the answers to some records
abbrev pub answers_to : Limits → List Record → Answers
answers_to limits all = settled (answers_after_within limits [] all)

-- the answers to a text
abbrev pub answers_within : Limits → List ℕ → Answers
answers_within limits text = answers_to limits (records_within limits text)

-- ---- answers within the small limits

abbrev pub records_of : List ℕ → List Record
records_of = records_within Small

abbrev pub answers_of : List ℕ → Answers
answers_of = answers_within Small
