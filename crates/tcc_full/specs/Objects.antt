-- The one object that says all about an answer; its keys are in byte order.
use Rattle.std.specs.Prelude.{ℕ, ◌-◌, Bool, true, false, List, length, map, Option, None, Some, codes}
use Rattle.serde_json.specs.Data.{Data, null, boolean, number, unsigned, string, array, object, no_members, member}
use Rattle.serde_json.specs.View.{items_of}
use Rattle.tcc_txn.specs.Limits.{most_bytes, most_keys, most_seals, most_sessions, most_transactions}
use Rattle.tcc_txn.specs.declared.limits.Limits.{Limits}
use Rattle.tcc_txn.specs.declared.limits.Limits.TheVariants.{Large, Small}
use Rattle.tcc_txn.specs.declared.limits.TheConstants.{MAX_OPERATIONS}
use Rattle.tcc_reads.specs.History.{History, count}
use Rattle.tcc_reads.specs.declared.fault.ReadFault.{ReadFault}
use Rattle.tcc_reads.specs.declared.fault.ReadFaultKind.{ReadFaultKind}
use Rattle.tcc_reads.specs.declared.fault.ReadFaultKind.TheVariants as kind
use Rattle.tcc_graph.specs.Links.{cost}
use Rattle.tcc_graph.specs.declared.level.Level.{Level}
use Rattle.tcc_graph.specs.declared.level.Level.TheVariants.{Causal, Atomic}
use Rattle.tcc_graph.specs.declared.link.Link.{Link}
use Rattle.tcc_answer.specs.Json.{label_json}
use Rattle.tcc_answer.specs.Shapes.{shape_of}
use Rattle.tcc_answer.specs.Texts.{shape_word}
use Rattle.tcc_print.specs.Statuses.{code_of}
use Rattle.tcc_print.specs.Texts.{read_word}
use Rattle.tcc_print.specs.declared.status.Status.{Status}
use Rattle.tcc_print.specs.declared.status.Status.TheVariants.{Anomaly, ReadFaults}
use Rattle.tcc_full.specs.Links.{link_json, row_json}
use Rattle.tcc_full.specs.Records.{Records}
use Rattle.tcc_full.specs.Rows.{row_of}
use Rattle.tcc_full.specs.declared.objects.ReportOptions.{ReportOptions}

-- ---- what was asked for

abbrev pub level_word : Level → List ℕ
level_word Causal = codes "causal"
level_word Atomic = codes "atomic"

abbrev pub is_large : Limits → Bool
is_large Small = false
is_large Large = true

abbrev pub limits_json : Limits → Data
limits_json limits = object
    (member (codes "bytes") (number (unsigned (most_bytes limits)))
    (member (codes "keys") (number (unsigned (most_keys limits)))
    (member (codes "operations") (number (unsigned MAX_OPERATIONS))
    (member (codes "seals") (number (unsigned (most_seals limits)))
    (member (codes "sessions") (number (unsigned (most_sessions limits)))
    (member (codes "transactions") (number (unsigned (most_transactions limits)))
    no_members))))))

-- how many committed transactions a history has
abbrev pub committed_count : History → ℕ
committed_count h = count h - 1

-- ---- answers

-- an order, with its status
abbrev pub consistent_json : ReportOptions → Records → List ℕ → Status → Data
consistent_json asked r order status = object
    (member (codes "answer") (string (codes "consistent"))
    (member (codes "large") (boolean (is_large asked.limits))
    (member (codes "level") (string (level_word asked.level))
    (member (codes "limits") (limits_json asked.limits)
    (member (codes "order") (array (items_of (map (label_json r.labels) order)))
    (member (codes "sessions") (number (unsigned (length r.history.sessions)))
    (member (codes "status") (number (unsigned (code_of status)))
    (member (codes "transactions") (number (unsigned (committed_count r.history)))
    (member (codes "version") (string asked.version.now)
    no_members)))))))))

-- a cycle; no other has fewer steps
abbrev pub anomaly_json : ReportOptions → Records → List Link → Data
anomaly_json asked r links = object
    (member (codes "answer") (string (codes "anomaly"))
    (member (codes "cycle") (array (items_of (map (link_json r) links)))
    (member (codes "large") (boolean (is_large asked.limits))
    (member (codes "least") (boolean true)
    (member (codes "level") (string (level_word asked.level))
    (member (codes "limits") (limits_json asked.limits)
    (member (codes "sessions") (number (unsigned (length r.history.sessions)))
    (member (codes "shape") (string (shape_word (shape_of links)))
    (member (codes "status") (number (unsigned (code_of Anomaly)))
    (member (codes "steps") (number (unsigned (cost links)))
    (member (codes "transactions") (number (unsigned (committed_count r.history)))
    (member (codes "version") (string asked.version.now)
    no_members))))))))))))

-- the name that the field has for a kind of read fault, where it has one
abbrev pub field_name : ReadFaultKind → Option (List ℕ)
field_name kind.Duplicate = None
field_name kind.BrokenInternal = Some (codes "internal")
field_name kind.ThinAir = None
field_name kind.Aborted = Some (codes "G1a")
field_name kind.Intermediate = Some (codes "G1b")
field_name kind.Future = None

abbrev pub name_json : Option (List ℕ) → Data
name_json None = null
name_json (Some name) = string name

-- a read fault, with the row of its operation
abbrev pub fault_json : Records → ReadFault → Data
fault_json r fault = object
    (member (codes "key") (string fault.key)
    (member (codes "kind") (string (read_word fault.kind))
    (member (codes "name") (name_json (field_name fault.kind))
    (member (codes "op") (number (unsigned fault.op))
    (member (codes "place") (number (unsigned fault.place))
    (member (codes "row") (row_json (row_of r.rows fault.session fault.place (fault.op - 1)))
    (member (codes "session") (string fault.session)
    (member (codes "value") (number (unsigned fault.value))
    no_members))))))))

-- all read faults
abbrev pub unresolved_json : ReportOptions → Records → List ReadFault → Data
unresolved_json asked r faults = object
    (member (codes "answer") (string (codes "unresolved"))
    (member (codes "faults") (array (items_of (map (fault_json r) faults)))
    (member (codes "large") (boolean (is_large asked.limits))
    (member (codes "level") (string (level_word asked.level))
    (member (codes "limits") (limits_json asked.limits)
    (member (codes "sessions") (number (unsigned (length r.history.sessions)))
    (member (codes "status") (number (unsigned (code_of ReadFaults)))
    (member (codes "transactions") (number (unsigned (committed_count r.history)))
    (member (codes "version") (string asked.version.now)
    no_members)))))))))

-- ---- where nothing was judged

-- with what was at fault, and the status
abbrev pub none_json : ReportOptions → Data → Status → Data
none_json asked fault status = object
    (member (codes "answer") (string (codes "none"))
    (member (codes "fault") fault
    (member (codes "large") (boolean (is_large asked.limits))
    (member (codes "level") (string (level_word asked.level))
    (member (codes "limits") (limits_json asked.limits)
    (member (codes "status") (number (unsigned (code_of status)))
    (member (codes "version") (string asked.version.now)
    no_members)))))))

-- a word for what was at fault
abbrev pub ended_json : List ℕ → Data
ended_json word = object (member (codes "answer") (string word) no_members)
