-- The text of an answer, as it is written: ASCII, each line ended by one line feed.
use Rattle.std.specs.Prelude.{ℕ, ◌-◌, List, ◌++◌, length, flat_map, codes, decimal}
use Rattle.tcc_graph.specs.Links.{cost}
use Rattle.tcc_graph.specs.declared.step.Step.{Step}
use Rattle.tcc_graph.specs.declared.step.Step.TheVariants as step
use Rattle.tcc_graph.specs.declared.link.Link.{Link}
use Rattle.tcc_graph.specs.declared.link.Link.TheVariants as link
use Rattle.tcc_graph.specs.Labels.{label_at}
use Rattle.tcc_answer.specs.Shapes.{shape_of}
use Rattle.tcc_answer.specs.Answers.{LabelledOrder, LabelledCycle}
use Rattle.tcc_answer.specs.declared.answer.Answer.{Answer}
use Rattle.tcc_answer.specs.declared.answer.Answer.TheVariants as answer
use Rattle.tcc_answer.specs.declared.shape.Shape.{Shape}
use Rattle.tcc_answer.specs.declared.shape.Shape.TheVariants.{CyclicCausality, StaleInitialRead, OverwrittenRead, ConflictCycle}

-- the word of a shape
abbrev pub shape_word : Shape → List ℕ
shape_word CyclicCausality = codes "cyclic-causality"
shape_word StaleInitialRead = codes "stale-initial-read"
shape_word OverwrittenRead = codes "overwritten-read"
shape_word ConflictCycle = codes "conflict-cycle"

-- each label after a space
abbrev pub labels_text : List (List ℕ) → List ℕ → List ℕ
labels_text labels numbers = flat_map (λ n. codes " " ++ label_at labels n) numbers

-- how many transactions, without `init`, and sessions there are, and the order's labels
abbrev pub order_text : LabelledOrder → List ℕ
order_text o =
    codes "consistent: "
    ++ (decimal (length o.order - 1) ++ (codes " transactions, "
    ++ (decimal o.sessions ++ (codes " sessions\norder:" ++ (labels_text o.labels o.order ++ codes "\n")))))

-- U -> V
abbrev pub pair_text : List (List ℕ) → ℕ → ℕ → List ℕ
pair_text labels u v = label_at labels u ++ (codes " -> " ++ label_at labels v)

-- U -> V by KEY, and the end of its line
abbrev pub read_text : List (List ℕ) → ℕ → ℕ → List ℕ → List ℕ
read_text labels u v key = pair_text labels u v ++ (codes " by " ++ (key ++ codes "\n"))

-- session U -> V, or reads U -> V by KEY
abbrev pub step_text : List (List ℕ) → Step → List ℕ
step_text labels (step.Session u v) = codes "session " ++ (pair_text labels u v ++ codes "\n")
step_text labels (step.Reads u v key) = codes "reads " ++ read_text labels u v key

-- each step after two spaces
abbrev pub walk_text : List (List ℕ) → List Step → List ℕ
walk_text labels walk = flat_map (λ s. codes "  " ++ step_text labels s) walk

-- a step's line; or derived B -> A by KEY, read by C, then the walk from B to C, and then the read that it
-- contradicts: against A -> C by KEY, after two spaces
abbrev pub link_text : List (List ℕ) → Link → List ℕ
link_text labels (link.Session u v) = step_text labels (step.Session u v)
link_text labels (link.Reads u v key) = step_text labels (step.Reads u v key)
link_text labels (link.Derived b a key c walk) =
    codes "derived "
    ++ (pair_text labels b a ++ (codes " by " ++ (key ++ (codes ", read by " ++ (label_at labels c ++ (codes "\n"
    ++ (walk_text labels walk
    ++ (codes "  against " ++ read_text labels a c key))))))))

-- how many steps the links have together, every use counted, the shape, and the links
abbrev pub cycle_text : LabelledCycle → List ℕ
cycle_text c =
    codes "anomaly: "
    ++ (decimal (cost c.links) ++ (codes " steps, "
    ++ (shape_word (shape_of c.links) ++ (codes "\n" ++ flat_map (link_text c.labels) c.links))))

abbrev pub answer_text : Answer → List ℕ
answer_text (answer.Commit o) = order_text o
answer_text (answer.Anomaly c) = cycle_text c
