-- The lines of a survey as JSON: each the compact text of one object, whose keys are in byte order.
use Rattle.std.specs.Prelude.{ℕ, List, map, codes}
use Rattle.serde_json.specs.Data.{Data, number, unsigned, string, array, object, no_members, member}
use Rattle.serde_json.specs.View.{items_of}
use Rattle.tcc_survey_run.specs.declared.counting.NameCount.{NameCount}
use Rattle.tcc_survey_run.specs.declared.told.ToldRead.{ToldRead}
use Rattle.tcc_survey_run.specs.Told.{name_words}

-- a contradicted read, with the labels of the reader and of the writer
abbrev pub read_json : List ℕ → List ℕ → ToldRead → Data
read_json reader writer told = object
    (member (codes "contradicted") (string reader)
    (member (codes "key") (string told.key)
    (member (codes "name") (string (name_words told.name))
    (member (codes "op") (number (unsigned told.op))
    (member (codes "value") (number (unsigned told.value))
    (member (codes "writer") (string writer)
    no_members))))))

abbrev pub name_json : NameCount → Data
name_json one = object
    (member (codes "count") (number (unsigned one.count))
    (member (codes "name") (string (name_words one.name))
    no_members))

abbrev pub total_json : ℕ → ℕ → ℕ → Data
total_json contradicted reads faults = object
    (member (codes "answer") (string (codes "survey"))
    (member (codes "contradicted") (number (unsigned contradicted))
    (member (codes "faults") (number (unsigned faults))
    (member (codes "reads") (number (unsigned reads))
    no_members))))

-- transactions in a circle, by their labels
abbrev pub circle_json : List (List ℕ) → Data
circle_json labels = object
    (member (codes "answer") (string (codes "circular"))
    (member (codes "transactions") (array (items_of (map string labels)))
    no_members))
