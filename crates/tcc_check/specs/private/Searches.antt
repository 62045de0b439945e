-- The result of a search for where a row is broken first.
use Rattle.std.specs.Prelude.{ℕ, ◌≡◌, ◌<◌, ◌≤◌, ◌+◌, ◌-◌, ◌⊎◌, List, length, slice_index, Contains, Option, None, Some, MatchOption, min}
use Rattle.tcc_reads.specs.History.{History}
use Rattle.tcc_graph.specs.Relations.{IsSessionPair}
use Rattle.tcc_check.specs.private.Coming.{first_of}
use Rattle.tcc_check.specs.private.Runs.{IsInRun}
use Rattle.tcc_check.specs.private.WeightsFrom.{ends_of}

-- below n nothing is broken
abbrev pub HoldsBelow : ℕ → (ℕ → Type 0) → Type 0
HoldsBelow n broken = (a : ℕ) → a < n → broken a → ⊥

-- the first number below n at which something is broken
pub record IsFirstBelow (n : ℕ) (broken : ℕ → Type 0) (a : ℕ) : Type 0 where
  pub below : a < n
  pub here : broken a
  pub first : (earlier : ℕ) → earlier < a → broken earlier → ⊥

-- it was found, where there is one
abbrev pub IsFoundBelow : ℕ → (ℕ → Type 0) → Option ℕ → Type 0
IsFoundBelow n broken found = MatchOption found (HoldsBelow n broken) (IsFirstBelow n broken)

-- the lesser of what was found
abbrev pub lesser : Option ℕ → Option ℕ → Option ℕ
lesser None other = other
lesser (Some one) None = Some one
lesser (Some one) (Some other) = Some (min one other)

-- after this many steps one of these links to v costs less than the row has; its numbers are those from `low` upward
abbrev pub IsOvershot : List (ℕ × ℕ) → List ℕ → ℕ → ℕ → ℕ → Type 0
IsOvershot ends row low before v =
    (low ≤ v) × (w : ℕ) × Contains ends (v, w) × (before + 1 + w < slice_index row (v - low))

-- one of these ends is v, and the row has more for it than the cost
abbrev pub IsOvershotAt : List ℕ → List ℕ → ℕ → ℕ → ℕ → Type 0
IsOvershotAt ends row low cost v = (low ≤ v) × Contains ends v × (cost < slice_index row (v - low))

-- a session pair of the end's run, after what the row has for its start, costs less than the row has
abbrev pub IsLongRun : ℕ → List ℕ → ℕ → ℕ → Type 0
IsLongRun begin row low end = (u : ℕ) × IsInRun begin end u × (low ≤ u) × (slice_index row (u - low) + 1 < slice_index row (end - low))

abbrev pub IsLongRunTo : List ℕ → List ℕ → ℕ → ℕ → Type 0
IsLongRunTo begins row low end = (low ≤ end) × IsLongRun (slice_index begins end) row low end

-- the same for one of the other links, which are listed by their starts
abbrev pub IsLongOther : List (List (ℕ × ℕ)) → List ℕ → ℕ → ℕ → Type 0
IsLongOther others row low v =
    (u : ℕ) × (low ≤ u) × (u < low + length row) × IsOvershot (ends_of others u) row low (slice_index row (u - low)) v

abbrev pub IsLongStep : List ℕ → List (List (ℕ × ℕ)) → List ℕ → ℕ → ℕ → Type 0
IsLongStep begins others row low v = IsLongRunTo begins row low v ⊎ IsLongOther others row low v

-- what was found before, or what is in the row of `start`
abbrev pub IsFirstLong : Option (ℕ × ℕ) → ℕ → List ℕ → List (List (ℕ × ℕ)) → List ℕ → ℕ → Option (ℕ × ℕ) → Type 0
IsFirstLong (Some at) start begins others row low result = result ≡ Some at
IsFirstLong None start begins others row low result =
    (end : Option ℕ) × IsFoundBelow (low + length row) (IsLongStep begins others row low) end × (result ≡ first_of None start end)

-- the row has more than a step for the end of a session pair
abbrev pub IsLongPair : History → List ℕ → ℕ → ℕ → ℕ → Type 0
IsLongPair h row low start v = (low ≤ v) × IsSessionPair h start v × (1 < slice_index row (v - low))

-- or more than one of the other links from the start costs
abbrev pub IsLongSingle : History → List (ℕ × ℕ) → List ℕ → ℕ → ℕ → ℕ → Type 0
IsLongSingle h others row low start v = IsLongPair h row low start v ⊎ IsOvershot others row low 0 v
