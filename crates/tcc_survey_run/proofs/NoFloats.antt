-- The line of a circle has no floats.
use Rattle.std.proofs.Common.{◌≡◌, ℕ, false, List, refl}
use Rattle.serde_json.specs.Data.{string}
use Rattle.serde_json.specs.Written.{has_float}
use Rattle.tcc_answer.proofs.NoFloats.{in_items}
use Rattle.tcc_survey_run.specs.Json.{circle_json}

pub in_circle : (labels : List (List ℕ)) → has_float (circle_json labels) ≡ false
in_circle labels = rw (in_items string (λ label. refl) labels) refl
