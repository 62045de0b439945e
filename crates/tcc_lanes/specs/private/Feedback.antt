-- Members that each cycle of links among all of them passes.
use Rattle.std.specs.Prelude.{ℕ, Bool, true, false, ◌<◌, ◌≤◌, ◌≡◌, ◌≢◌, ◌↔◌, List, length, slice_index, slice_index_or}
use Rattle.tcc_lanes.specs.declared.pricing.TheConstants.{NONE}
use Rattle.tcc_lanes.specs.private.Pricing.{price_of}

abbrev pub IsMarked : List Bool → ℕ → Type 0
IsMarked marks v = slice_index_or marks v false ≡ true

-- these prices have a link to a member that isn't seen
abbrev pub IsUnseen : List ℕ → List Bool → ℕ → Type 0
IsUnseen prices seen v = (slice_index prices v ≢ NONE) × (slice_index_or seen v false ≡ false)

-- the members are numbered, and those are marked to which a link leads that doesn't lead to a lower number. So the numbers would fall all
-- the way round a cycle that passes none of them
pub record IsFeedbackVertexSet (rows : List (List ℕ)) (marks : List Bool) : Type 0 where
  pub long : length marks ≡ length rows
  pub number : ℕ → ℕ
  pub each : (v : ℕ) → v < length rows
      → IsMarked marks v ↔ ((u : ℕ) × (u < length rows) × (price_of rows u v ≢ NONE) × (number u ≤ number v))
