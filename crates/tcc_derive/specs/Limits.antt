-- Up to which cost links are kept by cost, and whether all are.
use Rattle.std.specs.Prelude.{ℕ, ◌+◌, ◌<◌, ◌≤◌, ◌≡◌, ◌⊎◌, List, length, All, Some}
use Rattle.tcc_near.specs.WalkLengths.{least}
use Rattle.tcc_near.specs.declared.walk_lengths.TheConstants.{NONE}
use Rattle.tcc_derive.specs.declared.cost_limit.TheConstants.{NO_CYCLE_LIMIT}

-- by these lengths and prices a walk makes a cycle that costs n, or a walk and one derived link back do
abbrev pub IsClosing : List (List ℕ) → List (List ℕ) → ℕ → Type 0
IsClosing near prices n =
    ((a : ℕ) × (a < length near) × (least near a a ≡ Some n))
    ⊎ ((a : ℕ) × (b : ℕ) × (d : ℕ) × (c : ℕ) × (a < length near) × (b < length near)
    × (least near a b ≡ Some d) × (least prices b a ≡ Some c) × (d + c ≡ n))

-- n is what the cheapest of such cycles costs
abbrev pub IsLeastClosing : List (List ℕ) → List (List ℕ) → ℕ → Type 0
IsLeastClosing near prices n = IsClosing near prices n × ((m : ℕ) → IsClosing near prices m → n ≤ m)

-- The limit is the cost of the cheapest of such cycles. If none costs less than the mark for none, it is `NO_CYCLE_LIMIT`.
abbrev pub IsLimit : List (List ℕ) → List (List ℕ) → ℕ → Type 0
IsLimit near prices limit =
    IsLeastClosing near prices limit
    ⊎ ((limit ≡ NO_CYCLE_LIMIT) × ((m : ℕ) → IsClosing near prices m → NONE ≤ m))

-- none of these links costs more
abbrev pub AreWithin : ℕ → List (List (ℕ × ℕ)) → Type 0
AreWithin limit others = All (λ row. All (λ p. p.1 ≤ limit) row) others
