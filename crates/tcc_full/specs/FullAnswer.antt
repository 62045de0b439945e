-- What is found for a snapshot, and what is reported of it.
use Rattle.std.specs.Prelude.{ℕ, ◌≡◌, ◌≢◌, List, [], length}
use Rattle.serde_json.specs.Data.{Data}
use Rattle.tcc_txn.specs.Snapshots.{Sessions}
use Rattle.tcc_reads.specs.Faults.{read_faults}
use Rattle.tcc_reads.specs.History.{History}
use Rattle.tcc_reads.specs.Sources.{history}
use Rattle.tcc_graph.specs.Labels.{labels_of}
use Rattle.tcc_graph.specs.Levels.{judged}
use Rattle.tcc_graph.specs.declared.level.Level.{Level}
use Rattle.tcc_answering.specs.Firsts.{IsFirst}
use Rattle.tcc_answering.specs.declared.firsts.First.{First}
use Rattle.tcc_answering.specs.declared.firsts.First.TheVariants as first
use Rattle.tcc_print.specs.Statuses.{order_status}
use Rattle.tcc_print.specs.declared.status.Status.{Status}
use Rattle.tcc_print.specs.declared.status.Status.TheVariants.{Anomaly, ReadFaults}
use Rattle.tcc_full.specs.Objects.{anomaly_json, consistent_json, unresolved_json}
use Rattle.tcc_full.specs.Records.{Records}
use Rattle.tcc_full.specs.declared.finding.FoundAnswer.{FoundAnswer}
use Rattle.tcc_full.specs.declared.finding.FoundAnswer.TheVariants as found
use Rattle.tcc_full.specs.declared.objects.ReportOptions.{ReportOptions}
use Rattle.tcc_full.specs.declared.rows.OperationRows.{OperationRows}

-- all its read faults, where it has some; else its history, and its first commit order or the first of its least cycles
abbrev pub IsFound : Level → Sessions → FoundAnswer → Type 0
IsFound level s (found.Unresolved faults) = (read_faults s ≢ []) × (faults.items ≡ read_faults s)
IsFound level s (found.Resolved h f) = (read_faults s ≡ []) × (h ≡ history s) × IsFirst (judged h level) f

-- a snapshot with a history, the names of its transactions, and the rows of the snapshot's operations
abbrev pub records_with : Sessions → History → OperationRows → Records
records_with s h rows = record { snapshot = s; history = h; labels = labels_of h; rows = rows }

-- a snapshot with its own history
abbrev pub records_by : Sessions → OperationRows → Records
records_by s rows = records_with s (history s) rows

-- an order, where so many transactions are required
abbrev pub order_json : ReportOptions → ℕ → Records → List ℕ → Data
order_json asked required r order = consistent_json asked r order (order_status required (length order))

abbrev pub first_json : ReportOptions → ℕ → Records → First → Data
first_json asked required r (first.Order order) = order_json asked required r order.items
first_json asked required r (first.Cycle links) = anomaly_json asked r links.items

-- the object that is reported
abbrev pub found_json : ReportOptions → ℕ → Records → FoundAnswer → Data
found_json asked required r (found.Unresolved faults) = unresolved_json asked r faults.items
found_json asked required r (found.Resolved h f) = first_json asked required r f

abbrev pub first_told : ℕ → First → Status
first_told required (first.Order order) = order_status required (length order.items)
first_told required (first.Cycle links) = Anomaly

-- how a run ends that reports it
abbrev pub found_status : ℕ → FoundAnswer → Status
found_status required (found.Unresolved faults) = ReadFaults
found_status required (found.Resolved h f) = first_told required f
