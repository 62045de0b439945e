-- Ascending numbers, from a bound to below another.
use Rattle.std.specs.Prelude.{ℕ, ◌<◌, ◌≤◌, List, Contains}
use Rattle.std.specs.List.Sorted.{IsNonDecreasing}

-- some of these, and all of those from `low` to below `high`
pub record IsBetween (numbers : List ℕ) (low : ℕ) (high : ℕ) (found : List ℕ) : Type 0 where
  pub among : (b : ℕ) → Contains found b → Contains numbers b
  pub all : (b : ℕ) → Contains numbers b → low ≤ b → b < high → Contains found b
  pub rising : IsNonDecreasing found
