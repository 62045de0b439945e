-- What is noted of what is found, and what a run notes beside what it writes.
use Rattle.std.specs.Prelude.{ℕ, ◌≡◌, ◌⊎◌, List, [], Option, None, Err, length}
use Rattle.std.specs.Io.KnownBytes.{Appends}
use Rattle.tcc_txn.specs.Snapshots.{Sessions}
use Rattle.tcc_rows.specs.Answers.{answers_within, records_within}
use Rattle.tcc_rows.specs.Reached.{record_at}
use Rattle.tcc_rows.specs.Recordings.{IsRecorded}
use Rattle.tcc_rows.specs.declared.fault.RowFault.{RowFault}
use Rattle.tcc_answering.specs.declared.firsts.First.{First}
use Rattle.tcc_answering.specs.declared.firsts.First.TheVariants as first
use Rattle.tcc_print.specs.Notes.{AddsEach, IsNoted, order_note, read_notes}
use Rattle.tcc_verdict.specs.Stopping.{NotesStop}
use Rattle.tcc_full.specs.FullAnswer.{IsFound}
use Rattle.tcc_full.specs.Runs.{TellsFault, TellsFound, TellsMemory, finished, within}
use Rattle.tcc_full.specs.declared.finding.FoundAnswer.{FoundAnswer}
use Rattle.tcc_full.specs.declared.finding.FoundAnswer.TheVariants as found
use Rattle.tcc_full.specs.declared.objects.ReportOptions.{ReportOptions}

-- of a first answer: that it is an order with fewer transactions than are required
abbrev pub first_note : ℕ → First → List ℕ
first_note required (first.Order order) = order_note required (length order.items)
first_note required (first.Cycle links) = []

-- of what is found, that it is such an order; of each of the first read faults which write it is about
abbrev pub AreNotesOf : ℕ → Sessions → FoundAnswer → Option (List ℕ) → Option (List ℕ) → Type 0
AreNotesOf required s (found.Unresolved faults) before after = AddsEach before after (read_notes s faults.items)
AreNotesOf required s (found.Resolved h f) before after = IsNoted before after (first_note required f)

-- the records have no fault: what is found for all that they finish is noted, and written, or that memory is out
abbrev pub IsNotedAnswer : ReportOptions → ℕ → List ℕ → Option (List ℕ) → Option (List ℕ) → Option (List ℕ) → Option (List ℕ) → ℕ → Type 0
IsNotedAnswer asked required bytes noted noted' before after code =
    ((answers_within asked.limits bytes).fault ≡ None)
    × ((found : FoundAnswer) × IsFound asked.level (finished asked.limits bytes) found
    × AreNotesOf required (finished asked.limits bytes) found noted noted'
    × (TellsFound asked required (within asked.limits bytes) (finished asked.limits bytes) found before after code ⊎ TellsMemory asked before after code))

-- the records have a fault, or their reader failed: its note shows the record at its row, and it is written, or that memory is out
abbrev pub IsNotedStop : ReportOptions → List ℕ → Option (List ℕ) → Option (List ℕ) → Option (List ℕ) → Option (List ℕ) → ℕ → Type 0
IsNotedStop asked bytes noted noted' before after code =
    (fault : RowFault) × IsRecorded asked.limits bytes (Err fault)
    × NotesStop asked.limits fault (record_at fault.row (records_within asked.limits bytes)) noted noted'
    × (TellsFault asked fault before after code ⊎ TellsMemory asked before after code)

-- memory is out before anything is noted
abbrev pub IsNotedMemory : ReportOptions → Option (List ℕ) → Option (List ℕ) → Option (List ℕ) → Option (List ℕ) → ℕ → Type 0
IsNotedMemory asked noted noted' before after code = Appends noted noted' [] × TellsMemory asked before after code

-- what a run does with the bytes, and what it notes
abbrev pub IsNotedFull : ReportOptions → ℕ → List ℕ → Option (List ℕ) → Option (List ℕ) → Option (List ℕ) → Option (List ℕ) → ℕ → Type 0
IsNotedFull asked required bytes noted noted' before after code =
    IsNotedAnswer asked required bytes noted noted' before after code
    ⊎ (IsNotedStop asked bytes noted noted' before after code ⊎ IsNotedMemory asked noted noted' before after code)
