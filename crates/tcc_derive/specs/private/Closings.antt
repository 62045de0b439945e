-- What walks and derived links back cost, or none if there are none.
use Rattle.std.specs.Prelude.{ℕ, ◌+◌, ◌<◌, ◌≤◌, ◌≡◌, ◌≢◌, ◌⊎◌, List, All, Contains, Some, length, slice_index}
use Rattle.tcc_graph.specs.Tables.{row_of}
use Rattle.tcc_near.specs.WalkLengths.{least, least_in}
use Rattle.tcc_near.specs.declared.walk_lengths.TheConstants.{NONE}
use Rattle.tcc_derive.specs.Limits.{IsClosing}

-- a walk from some transaction to b, and a derived link from b back by these prices, cost n together
abbrev pub IsBackOrNone : List (List ℕ) → List ℕ → ℕ → ℕ → Type 0
IsBackOrNone near row b n =
    (n ≡ NONE) ⊎ ((a : ℕ) × (d : ℕ) × (c : ℕ) × (a < length near) × (least near a b ≡ Some d) × (least_in row a ≡ Some c) × (d + c ≡ n))

abbrev pub IsClosingOrNone : List (List ℕ) → List (List ℕ) → ℕ → Type 0
IsClosingOrNone near prices n = (n ≡ NONE) ⊎ IsClosing near prices n

-- the cost by the rows of a walk from a to b and a link back, together
abbrev pub back_cost : List (List ℕ) → List ℕ → ℕ → ℕ → ℕ
back_cost near row b a = slice_index (row_of near a) b + slice_index row a

-- no number from `from` to below `to` makes it cheaper
abbrev pub NoneCheaper : List (List ℕ) → List ℕ → ℕ → ℕ → ℕ → ℕ → Type 0
NoneCheaper near row b from to n = (a : ℕ) → from ≤ a → a < to → n ≤ back_cost near row b a

-- none of these makes it cheaper
abbrev pub NoOtherCheaper : List (List ℕ) → List ℕ → ℕ → List (ℕ × ℕ) → ℕ → Type 0
NoOtherCheaper near row b others n = All (λ p. n ≤ back_cost near row b p.0) others

-- b has more than `few` others
abbrev pub HasMany : ℕ → List (List (ℕ × ℕ)) → ℕ → Type 0
HasMany few others b = few < length (row_of others b)

-- each price is that of one of the others
abbrev pub HasPriced : List (List ℕ) → List (List (ℕ × ℕ)) → Type 0
HasPriced prices others =
    (b : ℕ) (a : ℕ) → b < length prices → a < length prices → slice_index (row_of prices b) a ≢ NONE
    → (c : ℕ) × Contains (row_of others b) (a, c)
