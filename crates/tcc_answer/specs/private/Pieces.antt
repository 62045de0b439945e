-- Pieces that a text of JSON is made of.
use Rattle.std.specs.Prelude.{ℕ, List, ◌∷◌, ◌++◌, codes}
use Rattle.serde_json.specs.Data.{Data}
use Rattle.serde_json.specs.Written.{compact_text}
use Rattle.tcc_answer.specs.Json.{word_text}
use Rattle.tcc_graph.specs.Labels.{label_at}

-- an item of a list, after a comma
abbrev pub later_item : {X : Type 0} → (X → Data) → X → List ℕ
later_item form x = 44 ∷ compact_text (form x)

-- what a derived link's object has before its walk
abbrev pub derived_head : List (List ℕ) → ℕ → ℕ → List ℕ → ℕ → List ℕ
derived_head labels from to key reader =
    codes "{\"from\":"
    ++ (word_text (label_at labels from)
    ++ (codes ",\"key\":"
    ++ (word_text key
    ++ (codes ",\"kind\":\"derived\",\"reader\":"
    ++ (word_text (label_at labels reader)
    ++ (codes ",\"to\":"
    ++ (word_text (label_at labels to)
    ++ codes ",\"walk\":[")))))))
