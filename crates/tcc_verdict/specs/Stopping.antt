-- What is noted where a run ends by the fault of a record.
use Rattle.std.specs.Prelude.{ℕ, ◌≡◌, ◌≢◌, if◌then◌else◌, List, [], Option}
use Rattle.tcc_rows.specs.Lines.{Record}
use Rattle.tcc_rows.specs.Reached.{is_of_record}
use Rattle.tcc_rows.specs.declared.fault.RowFault.{RowFault}
use Rattle.tcc_rows.specs.declared.fault.RowFaultKind.TheVariants as row_kind
use Rattle.tcc_txn.specs.declared.limits.Limits.{Limits}
use Rattle.tcc_print.specs.Notes.{IsNoted}
use Rattle.tcc_print.specs.RowNotes.{row_note}

-- the note of a fault, where this is the record at its row; it shows the record only where the fault is one of a record
abbrev pub stop_note : Limits → RowFault → Record → List ℕ
stop_note limits fault fields = row_note limits fault (if is_of_record fault.kind then fields else [])

-- no more than a part from the front of that note was written; where memory was out, nothing
pub record NotesStop (limits : Limits) (fault : RowFault) (fields : Record) (before : Option (List ℕ)) (after : Option (List ℕ)) : Type 0 where
  pub noted : fault.kind ≢ row_kind.NoMemory → IsNoted before after (stop_note limits fault fields)
  pub refused : fault.kind ≡ row_kind.NoMemory → after ≡ before
