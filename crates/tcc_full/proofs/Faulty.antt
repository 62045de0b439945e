-- Read faults are reported with the number of all transactions, whichever of their reads can be traced.
use Rattle.std.proofs.Common.{◌≡◌, List, ap, ◌∙◌}
use Rattle.std.proofs.lemmas.List.{length-map}
use Rattle.tcc_txn.specs.Snapshots.{Sessions}
use Rattle.tcc_reads.specs.History.{History}
use Rattle.tcc_reads.specs.Traced.{traced_history}
use Rattle.tcc_reads.specs.declared.fault.ReadFault.{ReadFault}
use Rattle.tcc_full.specs.FullAnswer.{records_by, records_with}
use Rattle.tcc_full.specs.Objects.{unresolved_json}
use Rattle.tcc_full.specs.declared.objects.ReportOptions.{ReportOptions}
use Rattle.tcc_full.specs.declared.rows.OperationRows.{OperationRows}

traced_alike : (asked : ReportOptions) (s : Sessions) (faults : List ReadFault) (rows : OperationRows)
    → unresolved_json asked (records_with s (traced_history s) rows) faults ≡ unresolved_json asked (records_by s rows) faults
traced_alike asked s faults rows = simp length-map

pub faulty_alike : (asked : ReportOptions) (s : Sessions) (faults : List ReadFault) (h : History) → h ≡ traced_history s → (rows : OperationRows)
    → unresolved_json asked (records_with s h rows) faults ≡ unresolved_json asked (records_by s rows) faults
faulty_alike asked s faults h is rows =
    ap (λ (h : History). unresolved_json asked (records_with s h rows) faults) is ∙ traced_alike asked s faults rows
