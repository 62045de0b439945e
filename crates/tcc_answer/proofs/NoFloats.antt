-- Lists of JSON without floats.
use Rattle.std.proofs.Common.{◌≡◌, ℕ, false, List, [], ◌∷◌, map, refl}
use Rattle.serde_json.specs.Data.{Data}
use Rattle.serde_json.specs.View.{items_of}
use Rattle.serde_json.specs.Written.{has_float, items_have_float}
use Rattle.tcc_answer.specs.Answers.{LabelledOrder}
use Rattle.tcc_answer.specs.Json.{label_json, order_json}

-- of items of which none has any
pub in_items : {X : Type 0} (form : X → Data) → ((x : X) → has_float (form x) ≡ false) → (xs : List X) → items_have_float (items_of (map form xs)) ≡ false
in_items form in_one [] = refl
in_items form in_one (x ∷ xs) = rw (in_one x, in_items form in_one xs) refl

pub in_labels : (labels : List (List ℕ)) (numbers : List ℕ) → items_have_float (items_of (map (label_json labels) numbers)) ≡ false
in_labels labels numbers = in_items (label_json labels) (λ number. refl) numbers

pub in_order : (o : LabelledOrder) → has_float (order_json o) ≡ false
in_order o = rw (in_labels o.labels o.order) refl
