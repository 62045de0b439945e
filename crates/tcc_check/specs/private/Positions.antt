-- Orders by the positions of their numbers.
use Rattle.std.specs.Prelude.{ℕ, ◌<◌, ◌≤◌, ◌≡◌, List, length, slice_index}
use Rattle.tcc_reads.specs.History.{History}
use Rattle.tcc_graph.specs.Orders.{IsNumbering}
use Rattle.tcc_graph.specs.declared.level.Level.{Level}
use Rattle.tcc_graph.specs.declared.level.Level.TheVariants.{Causal}
use Rattle.tcc_cert.specs.OrderRules.{HasInClock}

-- the order has each number once, at its position
pub record ArePositions (order : List ℕ) (positions : List ℕ) : Type 0 where
  pub numbering : IsNumbering (length order) order
  pub long : length positions ≡ length order
  pub within : (a : ℕ) → a < length order → slice_index positions a < length order
  pub here : (a : ℕ) → a < length order → slice_index order (slice_index positions a) ≡ a

-- b comes before c, and the clock of c, where there are clocks, has that of b and b itself
abbrev pub IsKept : History → Level → List ℕ → List (List ℕ) → ℕ → ℕ → Type 0
IsKept h level positions clocks b c =
    (slice_index positions b < slice_index positions c) × (level ≡ Causal → HasInClock h clocks b c)

-- by these weights nothing is missing for b to contradict a, and b is not before a
abbrev pub IsBehind : List ℕ → List ℕ → ℕ → ℕ → Type 0
IsBehind weights positions b a =
    (a < length positions) × (slice_index weights a ≡ 0) × (slice_index positions a ≤ slice_index positions b)
