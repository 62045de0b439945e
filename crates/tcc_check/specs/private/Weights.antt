-- Weights of links: how many steps a link takes before its last one.
-- A row of weights is of the links from one transaction, by their ends.
use Rattle.std.specs.Prelude.{ℕ, ◌<◌, ◌≤◌, ◌≡◌, ◌⊎◌, List, length, slice_index}
use Rattle.std.specs.List.Sorted.{IsNonDecreasingBy}

-- the weight where there is no link: no number of a table is above it
abbrev pub unlinked : ℕ
unlinked = 4294967295

-- the row has for each end the least of its weights, or the weight of no link
pub record IsLeastRow (weighs : ℕ → ℕ → Type 0) (row : List ℕ) : Type 0 where
  pub low : (u : ℕ) (w : ℕ) → u < length row → weighs u w → slice_index row u ≤ w
  pub from : (u : ℕ) → u < length row → (slice_index row u ≡ unlinked) ⊎ weighs u (slice_index row u)

-- each number was lowered to the least of its weights, or stayed
pub record IsLowered (weighs : ℕ → ℕ → Type 0) (old : List ℕ) (new : List ℕ) : Type 0 where
  pub long : length new ≡ length old
  pub kept : (u : ℕ) → u < length old → slice_index new u ≤ slice_index old u
  pub low : (u : ℕ) (w : ℕ) → u < length old → weighs u w → slice_index new u ≤ w
  pub from : (u : ℕ) → u < length old → (slice_index new u ≡ slice_index old u) ⊎ weighs u (slice_index new u)

-- of these links the lighter come first
abbrev pub AreByWeight : List (ℕ × ℕ) → Type 0
AreByWeight links = IsNonDecreasingBy (λ (link : ℕ × ℕ). link.1) links
