-- What is found has the graph of the snapshot; and read faults are reported alike by what can be traced.
use Rattle.std.proofs.Common.{◌≡◌, subst}
use Rattle.std.specs.Prelude.{IfOk}
use Rattle.serde_json.specs.Data.{Data}
use Rattle.tcc_reads.specs.History.{History}
use Rattle.tcc_reads.specs.Sources.{history}
use Rattle.tcc_answer.specs.Json.{json_line}
use Rattle.tcc_full.specs.FullAnswer.{first_json, records_with}
use Rattle.tcc_full.specs.Rows.{HasRowsOf}
use Rattle.tcc_full.specs.declared.rows.OperationRows.{OperationRows}
use Rattle.tcc_full.proofs.Faulty.{faulty_alike}
use Rattle.tcc_full.proofs.telling.told_line.Goals as goal

pub returns-in_ok-graph-in-Unresolved : goal.returns-in_ok-graph-in-Unresolved
returns-in_ok-graph-in-Unresolved g c =
    let faults = c.in-Unresolved.field-0.items in
    rw c.in-Unresolved.is (subst
    (λ (json : OperationRows → Data). IfOk c.line_by.result (λ line. (rows : OperationRows) × HasRowsOf c.args.text.now rows × (line.items ≡ json_line (json rows))))
    (λ i rows. faulty_alike c.args.asked.now c.args.snapshot.now faults c.in_ok-graph-in-Unresolved.graph c.in_ok-graph-in-Unresolved.ensures rows i)
    (rw c.in-Unresolved.is at c.line_by.ensures))

pub returns-in-Resolved : goal.returns-in-Resolved
returns-in-Resolved g c =
    let is : c.in-Resolved.graph ≡ history c.args.snapshot.now = (rw c.in-Resolved.is at c.requires).1 in
    rw c.in-Resolved.is (subst
    (λ (h : History). IfOk c.line_by-in-Resolved.result (λ line. (rows : OperationRows) × HasRowsOf c.args.text.now rows
    × (line.items ≡ json_line (first_json c.args.asked.now c.args.run.now.options.now.required (records_with c.args.snapshot.now h rows) c.in-Resolved.first))))
    is (rw c.in-Resolved.is at c.line_by-in-Resolved.ensures))
