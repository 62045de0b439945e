-- Objects that have one list among their members, by the members before it and those after it.
use Rattle.std.specs.Prelude.{ℕ, ◌≡◌, Bool, true, false, List, length, codes}
use Rattle.serde_json.specs.Data.{Data, null, boolean, number, unsigned, string, object, Members, no_members, member}
use Rattle.serde_json.specs.View.{view}
use Rattle.serde_json.specs.Written.{has_float}
use Rattle.tcc_graph.specs.Links.{cost}
use Rattle.tcc_graph.specs.declared.link.Link.{Link}
use Rattle.tcc_graph.specs.Labels.{label_at}
use Rattle.tcc_answer.specs.Shapes.{shape_of}
use Rattle.tcc_answer.specs.Texts.{shape_word}
use Rattle.tcc_print.specs.Statuses.{code_of}
use Rattle.tcc_print.specs.declared.status.Status.{Status}
use Rattle.tcc_print.specs.declared.status.Status.TheVariants.{Anomaly, ReadFaults}
use Rattle.tcc_full.specs.Links.{row_json}
use Rattle.tcc_full.specs.Objects.{committed_count, is_large, level_word, limits_json}
use Rattle.tcc_full.specs.Records.{Records, read_row, value_from, write_row}
use Rattle.tcc_full.specs.declared.framing.Frame.{Frame}
use Rattle.tcc_full.specs.declared.objects.ReportOptions.{ReportOptions}

-- members, with others after them
abbrev pub joined : Members → Members → Members
joined no_members others = others
joined (member name value rest) others = member name value (joined rest others)

-- the members of the first object, the list under its name, and the members of the other object
abbrev pub framed_by : Data → List ℕ → Data → Data → Data
framed_by (object before) name list (object after) = object (joined before (member name list after))
framed_by before name list after = null

abbrev pub framed : Frame → Data → Data
framed f list = framed_by (view f.before) f.name.now list (view f.after)

abbrev pub has_members : Data → Bool
has_members (object (member name value rest)) = true
has_members other = false

-- an object that has members, and no floats
abbrev pub IsPlain : Data → Type 0
IsPlain value = (has_members value ≡ true) × (has_float value ≡ false)

abbrev pub IsFrame : Frame → Type 0
IsFrame f = IsPlain (view f.before) × IsPlain (view f.after)

-- ---- what each object has beside its list

-- an order
abbrev pub order_before : ReportOptions → Data
order_before asked = object
    (member (codes "answer") (string (codes "consistent"))
    (member (codes "large") (boolean (is_large asked.limits))
    (member (codes "level") (string (level_word asked.level))
    (member (codes "limits") (limits_json asked.limits)
    no_members))))

abbrev pub order_after : ReportOptions → Records → Status → Data
order_after asked r status = object
    (member (codes "sessions") (number (unsigned (length r.history.sessions)))
    (member (codes "status") (number (unsigned (code_of status)))
    (member (codes "transactions") (number (unsigned (committed_count r.history)))
    (member (codes "version") (string asked.version.now)
    no_members))))

-- a cycle, or read faults
abbrev pub list_before : List ℕ → Data
list_before word = object (member (codes "answer") (string word) no_members)

abbrev pub cycle_after : ReportOptions → Records → List Link → Data
cycle_after asked r links = object
    (member (codes "large") (boolean (is_large asked.limits))
    (member (codes "least") (boolean true)
    (member (codes "level") (string (level_word asked.level))
    (member (codes "limits") (limits_json asked.limits)
    (member (codes "sessions") (number (unsigned (length r.history.sessions)))
    (member (codes "shape") (string (shape_word (shape_of links)))
    (member (codes "status") (number (unsigned (code_of Anomaly)))
    (member (codes "steps") (number (unsigned (cost links)))
    (member (codes "transactions") (number (unsigned (committed_count r.history)))
    (member (codes "version") (string asked.version.now)
    no_members))))))))))

abbrev pub faults_after : ReportOptions → Records → Data
faults_after asked r = object
    (member (codes "large") (boolean (is_large asked.limits))
    (member (codes "level") (string (level_word asked.level))
    (member (codes "limits") (limits_json asked.limits)
    (member (codes "sessions") (number (unsigned (length r.history.sessions)))
    (member (codes "status") (number (unsigned (code_of ReadFaults)))
    (member (codes "transactions") (number (unsigned (committed_count r.history)))
    (member (codes "version") (string asked.version.now)
    no_members)))))))

-- a derived link, whose list is its walk
abbrev pub walk_before : List ℕ → List ℕ → List ℕ → List ℕ → Data → Data → ℕ → Data
walk_before from key reader to missed read value = object
    (member (codes "from") (string from)
    (member (codes "key") (string key)
    (member (codes "kind") (string (codes "derived"))
    (member (codes "missed") missed
    (member (codes "read") read
    (member (codes "reader") (string reader)
    (member (codes "to") (string to)
    (member (codes "value") (number (unsigned value))
    no_members))))))))

abbrev pub walk_after : Data → Data
walk_after written = object (member (codes "written") written no_members)

abbrev pub IsDerivedFrame : Records → ℕ → ℕ → List ℕ → ℕ → Frame → Type 0
IsDerivedFrame r b a key c f =
    (view f.before ≡ walk_before (label_at r.labels b) key (label_at r.labels c) (label_at r.labels a)
    (row_json (write_row r b key)) (row_json (read_row r a c key)) (value_from r a key))
    × (f.name.now ≡ codes "walk")
    × (view f.after ≡ walk_after (row_json (write_row r a key)))
