-- The links of a cycle as JSON, each with the value that was read and the rows of its operations.
use Rattle.std.specs.Prelude.{ℕ, List, map, Option, None, Some, codes}
use Rattle.serde_json.specs.Data.{Data, null, number, unsigned, string, array, object, no_members, member}
use Rattle.serde_json.specs.View.{items_of}
use Rattle.tcc_graph.specs.declared.step.Step.{Step}
use Rattle.tcc_graph.specs.declared.step.Step.TheVariants as step
use Rattle.tcc_graph.specs.declared.link.Link.{Link}
use Rattle.tcc_graph.specs.declared.link.Link.TheVariants as link
use Rattle.tcc_answer.specs.Json.{label_json}
use Rattle.tcc_graph.specs.Labels.{label_at}
use Rattle.tcc_full.specs.Records.{Records, read_row, value_from, write_row}

-- a row; null for the initial value, which nobody recorded
abbrev pub row_json : Option ℕ → Data
row_json None = null
row_json (Some row) = number (unsigned row)

abbrev pub session_json : Records → ℕ → ℕ → Data
session_json r u v = object
    (member (codes "from") (label_json r.labels u)
    (member (codes "kind") (string (codes "session"))
    (member (codes "to") (label_json r.labels v)
    no_members)))

-- the second reads the key from the first
abbrev pub reads_json : Records → ℕ → ℕ → List ℕ → Data
reads_json r u v key = object
    (member (codes "from") (label_json r.labels u)
    (member (codes "key") (string key)
    (member (codes "kind") (string (codes "reads"))
    (member (codes "read") (row_json (read_row r u v key))
    (member (codes "to") (label_json r.labels v)
    (member (codes "value") (number (unsigned (value_from r u key)))
    (member (codes "written") (row_json (write_row r u key))
    no_members)))))))

abbrev pub step_json : Records → Step → Data
step_json r (step.Session u v) = session_json r u v
step_json r (step.Reads u v key) = reads_json r u v key

-- a derived link, by the names of its transactions, its rows, its value and its walk
abbrev pub derived_object : List ℕ → List ℕ → List ℕ → List ℕ → Data → Data → ℕ → Data → Data → Data
derived_object from key reader to missed read value walk written = object
    (member (codes "from") (string from)
    (member (codes "key") (string key)
    (member (codes "kind") (string (codes "derived"))
    (member (codes "missed") missed
    (member (codes "read") read
    (member (codes "reader") (string reader)
    (member (codes "to") (string to)
    (member (codes "value") (number (unsigned value))
    (member (codes "walk") walk
    (member (codes "written") written
    no_members))))))))))

-- the reader reads the key from the second, and misses the write of the first
abbrev pub derived_json : Records → ℕ → ℕ → List ℕ → ℕ → List Step → Data
derived_json r b a key c walk =
    derived_object (label_at r.labels b) key (label_at r.labels c) (label_at r.labels a)
    (row_json (write_row r b key)) (row_json (read_row r a c key)) (value_from r a key)
    (array (items_of (map (step_json r) walk))) (row_json (write_row r a key))

abbrev pub link_json : Records → Link → Data
link_json r (link.Session u v) = session_json r u v
link_json r (link.Reads u v key) = reads_json r u v key
link_json r (link.Derived b a key c walk) = derived_json r b a key c walk
