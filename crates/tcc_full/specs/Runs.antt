-- What a run does with the bytes of records.
use Rattle.std.specs.Prelude.{ℕ, ◌≡◌, ◌≢◌, ◌⊎◌, List, take, Option, None, Err, true, codes}
use Rattle.tcc_txn.specs.Limits.{most_bytes}
use Rattle.tcc_txn.specs.Snapshots.{Sessions}
use Rattle.tcc_txn.specs.declared.limits.Limits.{Limits}
use Rattle.tcc_rows.specs.Answers.{answers_within}
use Rattle.tcc_rows.specs.Items.{finished_in}
use Rattle.tcc_rows.specs.Recordings.{IsRecorded}
use Rattle.tcc_rows.specs.declared.fault.RowFault.{RowFault}
use Rattle.tcc_rows.specs.declared.fault.RowFaultKind.TheVariants as row_kind
use Rattle.tcc_answer.specs.Json.{json_line}
use Rattle.tcc_print.specs.Json.{row_fault_json}
use Rattle.tcc_print.specs.Printed.{Prints, memory_line}
use Rattle.tcc_print.specs.Statuses.{row_status}
use Rattle.tcc_print.specs.declared.status.Status.TheVariants.{Device, Memory}
use Rattle.tcc_full.specs.Objects.{ended_json, none_json}
use Rattle.tcc_full.specs.Rows.{HasRowsOf}
use Rattle.tcc_full.specs.declared.objects.ReportOptions.{ReportOptions}
use Rattle.tcc_full.specs.declared.rows.OperationRows.{OperationRows}
use Rattle.tcc_full.specs.declared.finding.FoundAnswer.{FoundAnswer}
use Rattle.tcc_full.specs.FullAnswer.{IsFound, found_json, found_status, records_by}

-- what the records finish by their end, whatever they seal
abbrev pub finished : Limits → List ℕ → Sessions
finished limits bytes = finished_in (answers_within limits bytes).items

-- the bytes that the limit lets through, which are all of lawful records
abbrev pub within : Limits → List ℕ → List ℕ
within limits bytes = take (most_bytes limits) bytes

-- what is found for a snapshot is written, with the rows of the operations in a text
abbrev pub TellsFound : ReportOptions → ℕ → List ℕ → Sessions → FoundAnswer → Option (List ℕ) → Option (List ℕ) → ℕ → Type 0
TellsFound asked required text s found before after code =
    (rows : OperationRows) × HasRowsOf text rows
    × Prints before after (json_line (found_json asked required (records_by s rows) found)) (found_status required found) code

-- the records have no fault, and what is found for all that they finish is written
abbrev pub TellsAll : ReportOptions → ℕ → List ℕ → Option (List ℕ) → Option (List ℕ) → ℕ → Type 0
TellsAll asked required bytes before after code =
    ((answers_within asked.limits bytes).fault ≡ None)
    × ((found : FoundAnswer) × IsFound asked.level (finished asked.limits bytes) found
    × TellsFound asked required (within asked.limits bytes) (finished asked.limits bytes) found before after code)

-- the fault of the records is written, or that of a reader that failed after lawful ones; refused memory is none of them
abbrev pub TellsFault : ReportOptions → RowFault → Option (List ℕ) → Option (List ℕ) → ℕ → Type 0
TellsFault asked fault before after code =
    (fault.kind ≢ row_kind.NoMemory)
    × Prints before after (json_line (none_json asked (row_fault_json fault) (row_status fault.kind))) (row_status fault.kind) code

abbrev pub Stops : ReportOptions → List ℕ → Option (List ℕ) → Option (List ℕ) → ℕ → Type 0
Stops asked bytes before after code =
    (fault : RowFault) × IsRecorded asked.limits bytes (Err fault) × TellsFault asked fault before after code

-- memory is out, which is said in an object; or, where that has no room either, in the shortest line
abbrev pub TellsMemory : ReportOptions → Option (List ℕ) → Option (List ℕ) → ℕ → Type 0
TellsMemory asked before after code =
    Prints before after (json_line (none_json asked (ended_json (codes "memory")) Memory)) Memory code
    ⊎ Prints before after (memory_line true) Memory code

-- the records can't be opened
abbrev pub TellsDevice : ReportOptions → Option (List ℕ) → Option (List ℕ) → ℕ → Type 0
TellsDevice asked before after code = Prints before after (json_line (none_json asked (ended_json (codes "device")) Device)) Device code

-- what a run does with the bytes
abbrev pub IsFullRun : ReportOptions → ℕ → List ℕ → Option (List ℕ) → Option (List ℕ) → ℕ → Type 0
IsFullRun asked required bytes before after code =
    TellsAll asked required bytes before after code ⊎ (Stops asked bytes before after code ⊎ TellsMemory asked before after code)
