-- The JSON of an answer: one line with the compact text of one object, whose keys are in byte order.
use Rattle.std.specs.Prelude.{ℕ, ◌-◌, List, ◌++◌, length, map, codes}
use Rattle.serde_json.specs.Data.{Data, number, unsigned, string, array, object, no_members, member}
use Rattle.serde_json.specs.View.{items_of}
use Rattle.serde_json.specs.Written.{compact_text}
use Rattle.tcc_graph.specs.Links.{cost}
use Rattle.tcc_graph.specs.declared.step.Step.{Step}
use Rattle.tcc_graph.specs.declared.step.Step.TheVariants as step
use Rattle.tcc_graph.specs.declared.link.Link.{Link}
use Rattle.tcc_graph.specs.declared.link.Link.TheVariants as link
use Rattle.tcc_graph.specs.Labels.{label_at}
use Rattle.tcc_answer.specs.Shapes.{shape_of}
use Rattle.tcc_answer.specs.Texts.{shape_word}
use Rattle.tcc_answer.specs.Answers.{LabelledOrder, LabelledCycle}
use Rattle.tcc_answer.specs.declared.answer.Answer.{Answer}
use Rattle.tcc_answer.specs.declared.answer.Answer.TheVariants as answer

-- a transaction, by its label
abbrev pub label_json : List (List ℕ) → ℕ → Data
label_json labels n = string (label_at labels n)

abbrev pub order_json : LabelledOrder → Data
order_json o = object
    (member (codes "answer") (string (codes "consistent"))
    (member (codes "order") (array (items_of (map (label_json o.labels) o.order)))
    (member (codes "sessions") (number (unsigned o.sessions))
    (member (codes "transactions") (number (unsigned (length o.order - 1)))
    no_members))))

abbrev pub step_json : List (List ℕ) → Step → Data
step_json labels (step.Session u v) = object
    (member (codes "from") (label_json labels u)
    (member (codes "kind") (string (codes "session"))
    (member (codes "to") (label_json labels v)
    no_members)))
step_json labels (step.Reads u v key) = object
    (member (codes "from") (label_json labels u)
    (member (codes "key") (string key)
    (member (codes "kind") (string (codes "reads"))
    (member (codes "to") (label_json labels v)
    no_members))))

-- a step; or a derived pair with its key, its reader and its walk
abbrev pub link_json : List (List ℕ) → Link → Data
link_json labels (link.Session u v) = step_json labels (step.Session u v)
link_json labels (link.Reads u v key) = step_json labels (step.Reads u v key)
link_json labels (link.Derived b a key c walk) = object
    (member (codes "from") (label_json labels b)
    (member (codes "key") (string key)
    (member (codes "kind") (string (codes "derived"))
    (member (codes "reader") (label_json labels c)
    (member (codes "to") (label_json labels a)
    (member (codes "walk") (array (items_of (map (step_json labels) walk)))
    no_members))))))

abbrev pub cycle_json : LabelledCycle → Data
cycle_json c = object
    (member (codes "answer") (string (codes "anomaly"))
    (member (codes "cycle") (array (items_of (map (link_json c.labels) c.links)))
    (member (codes "shape") (string (shape_word (shape_of c.links)))
    (member (codes "steps") (number (unsigned (cost c.links)))
    no_members))))

abbrev pub answer_json : Answer → Data
answer_json (answer.Commit o) = order_json o
answer_json (answer.Anomaly c) = cycle_json c

-- the object as one line
abbrev pub json_line : Data → List ℕ
json_line value = compact_text value ++ codes "\n"

-- a text in quotation marks, as it is in a line
unfoldable pub word_text : List ℕ → List ℕ
word_text text = compact_text (string text)
