-- The line of read faults is the concatenation of its pieces.
use Rattle.std.proofs.Common.{◌≡◌, List, [], ◌∷◌, ◌++◌, ap, false, map, codes, append_assoc}
use Rattle.serde_json.proofs.OnLiterals.{serde_json_on_literals}
use Rattle.serde_json.specs.View.{items_of}
use Rattle.serde_json.specs.Written.{items_text}
use Rattle.tcc_reads.specs.declared.fault.ReadFault.{ReadFault}
use Rattle.tcc_answer.specs.Json.{json_line}
use Rattle.tcc_print.specs.Json.{read_fault_json, unresolved_json}

-- the line of all faults
pub whole_line : (faults : List ReadFault)
    → json_line (unresolved_json faults)
    ≡ codes "{\"answer\":\"unresolved\",\"faults\":[" ++ (items_text false (items_of (map read_fault_json faults)) ++ codes "}\n")
unfolding serde_json_on_literals
whole_line faults = ap (λ rest. codes "{\"answer\":\"unresolved\",\"faults\":[" ++ rest)
    (append_assoc (items_text false (items_of (map read_fault_json faults))) (125 ∷ []) (10 ∷ []))
