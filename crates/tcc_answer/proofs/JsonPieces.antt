-- A text of JSON is its pieces, one after the other.
use Rattle.std.proofs.Common.{◌≡◌, ℕ, List, [], ◌∷◌, ◌++◌, ◌∙◌, sym, ap, false, true, map, flat_map, refl, codes, decimal, append_assoc}
use Rattle.serde_json.proofs.OnLiterals.{serde_json_on_literals}
use Rattle.serde_json.specs.Data.{Data}
use Rattle.serde_json.specs.View.{items_of}
use Rattle.serde_json.specs.Written.{compact_text, items_text}
use Rattle.tcc_graph.specs.Links.{cost, link_from, link_to}
use Rattle.tcc_graph.specs.declared.step.Step.{Step}
use Rattle.tcc_graph.specs.declared.link.Link.{Link}
use Rattle.tcc_graph.specs.declared.link.Link.TheVariants as link
use Rattle.tcc_answer.specs.Answers.{LabelledCycle}
use Rattle.tcc_answer.specs.Json.{cycle_json, json_line, link_json, step_json, word_text}
use Rattle.tcc_answer.specs.Shapes.{shape_of}
use Rattle.tcc_answer.specs.Texts.{shape_word}
use Rattle.tcc_answer.specs.private.Pieces.{derived_head, later_item}

-- the items after the first, and the bracket
later_items : {X : Type 0} (form : X → Data) (xs : List X) → items_text true (items_of (map form xs)) ≡ flat_map (later_item form) xs ++ 93 ∷ []
later_items form [] = refl
later_items form (x ∷ xs) =
    ap (λ rest. 44 ∷ (compact_text (form x) ++ rest)) (later_items form xs)
    ∙ sym (append_assoc (later_item form x) (flat_map (later_item form) xs) (93 ∷ []))

-- all items, and the bracket
pub all_items : {X : Type 0} (form : X → Data) (x : X) (xs : List X)
    → items_text false (items_of (map form (x ∷ xs))) ≡ compact_text (form x) ++ (flat_map (later_item form) xs ++ 93 ∷ [])
all_items form x xs = ap (λ rest. compact_text (form x) ++ rest) (later_items form xs)

-- a derived link
derived_object : (labels : List (List ℕ)) (from to : ℕ) (key : List ℕ) (reader : ℕ) (walk : List Step)
    → compact_text (link_json labels (link.Derived from to key reader walk))
    ≡ derived_head labels from to key reader ++ (items_text false (items_of (map (step_json labels) walk)) ++ codes "}")
unfolding serde_json_on_literals word_text
derived_object labels from to key reader walk = simp append_assoc refl

-- a derived link whose pieces come after a text
pub derived_behind : (labels : List (List ℕ)) (one : Link) (from to : ℕ) (key : List ℕ) (reader : ℕ) (walk : List Step)
    → one ≡ link.Derived from to key reader walk → (start end : ℕ) → start ≡ link_from one → end ≡ link_to one
    → (old begun walked all : List ℕ) → begun ≡ old ++ derived_head labels start end key reader
    → walked ≡ begun ++ items_text false (items_of (map (step_json labels) walk)) → all ≡ walked ++ codes "}"
    → all ≡ old ++ compact_text (link_json labels one)
derived_behind labels one from to key reader walk is start end starts ends old begun walked all first second third =
    let steps = items_text false (items_of (map (step_json labels) walk)) in
    let from_is : start ≡ from = starts ∙ ap link_from is in
    let to_is : end ≡ to = ends ∙ ap link_to is in
    third
    ∙ ap (λ text. text ++ codes "}") (second ∙ ap (λ text. text ++ steps) first)
    ∙ append_assoc (old ++ derived_head labels start end key reader) steps (codes "}")
    ∙ append_assoc old (derived_head labels start end key reader) (steps ++ codes "}")
    ∙ (λ i. old ++ (derived_head labels (from_is i) (to_is i) key reader ++ (steps ++ codes "}")))
    ∙ ap (λ text. old ++ text) (sym (derived_object labels from to key reader walk))
    ∙ ap (λ l. old ++ compact_text (link_json labels l)) (sym is)

-- a cycle
cycle_object : (c : LabelledCycle) → compact_text (cycle_json c)
    ≡ codes "{\"answer\":\"anomaly\",\"cycle\":["
    ++ (items_text false (items_of (map (link_json c.labels) c.links))
    ++ (codes ",\"shape\":" ++ (word_text (shape_word (shape_of c.links)) ++ (codes ",\"steps\":" ++ (decimal (cost c.links) ++ codes "}")))))
unfolding serde_json_on_literals word_text
cycle_object c = refl

-- its pieces and a line feed
with_feed : (items word steps : List ℕ)
    → (codes "{\"answer\":\"anomaly\",\"cycle\":["
    ++ (items ++ (codes ",\"shape\":" ++ (word ++ (codes ",\"steps\":" ++ (steps ++ codes "}"))))))
    ++ codes "\n"
    ≡ codes "{\"answer\":\"anomaly\",\"cycle\":["
    ++ (items ++ (codes ",\"shape\":" ++ (word ++ (codes ",\"steps\":" ++ (steps ++ codes "}\n")))))
with_feed items word steps = simp append_assoc refl

-- the line of a cycle
pub line_of_cycle : (c : LabelledCycle) → json_line (cycle_json c)
    ≡ codes "{\"answer\":\"anomaly\",\"cycle\":["
    ++ (items_text false (items_of (map (link_json c.labels) c.links))
    ++ (codes ",\"shape\":" ++ (word_text (shape_word (shape_of c.links)) ++ (codes ",\"steps\":" ++ (decimal (cost c.links) ++ codes "}\n")))))
line_of_cycle c =
    ap (λ text. text ++ codes "\n") (cycle_object c)
    ∙ with_feed (items_text false (items_of (map (link_json c.labels) c.links))) (word_text (shape_word (shape_of c.links))) (decimal (cost c.links))
