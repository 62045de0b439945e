-- The JSON of faults: one line with the compact text of one object, whose keys are in byte order.
use Rattle.std.specs.Prelude.{ℕ, List, map, codes}
use Rattle.serde_json.specs.Data.{Data, Members, number, unsigned, string, array, object, no_members, member}
use Rattle.serde_json.specs.View.{items_of}
use Rattle.tcc_rows.specs.declared.fault.RowFault.{RowFault}
use Rattle.tcc_rows.specs.declared.fault.RowFaultKind.{RowFaultKind}
use Rattle.tcc_rows.specs.declared.fault.RowFaultKind.TheVariants.{Unfinished}
use Rattle.tcc_reads.specs.declared.fault.ReadFault.{ReadFault}
use Rattle.tcc_answer.specs.Json.{json_line}
use Rattle.tcc_print.specs.declared.run_error.RunError.{RunError}
use Rattle.tcc_print.specs.declared.run_error.RunError.TheVariants as error
use Rattle.tcc_print.specs.Texts.{certificate_fault_text, row_word, read_word}

abbrev pub read_fault_json : ReadFault → Data
read_fault_json fault = object
    (member (codes "key") (string fault.key)
    (member (codes "kind") (string (read_word fault.kind))
    (member (codes "op") (number (unsigned fault.op))
    (member (codes "place") (number (unsigned fault.place))
    (member (codes "session") (string fault.session)
    (member (codes "value") (number (unsigned fault.value))
    no_members))))))

abbrev pub unresolved_json : List ReadFault → Data
unresolved_json faults = object
    (member (codes "answer") (string (codes "unresolved"))
    (member (codes "faults") (array (items_of (map read_fault_json faults)))
    no_members))

-- the session that is unfinished; of the other kinds nothing
abbrev pub row_session_json : RowFaultKind → Members
row_session_json (Unfinished session) = member (codes "session") (string session) no_members
row_session_json _ = no_members

abbrev pub row_fault_json : RowFault → Data
row_fault_json fault = object
    (member (codes "answer") (string (codes "row"))
    (member (codes "kind") (string (row_word fault.kind))
    (member (codes "row") (number (unsigned fault.row))
    (row_session_json fault.kind))))

-- what is printed in place of an answer; a fault of a certificate has no JSON, and is printed as in the text
abbrev pub run_error_line : RunError → List ℕ
run_error_line (error.Row fault) = json_line (row_fault_json fault)
run_error_line (error.Reads faults) = json_line (unresolved_json faults.items)
run_error_line (error.Text fault) = certificate_fault_text fault
run_error_line error.NoMemory = codes "{\"answer\":\"memory\"}\n"
