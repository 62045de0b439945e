-- The positions of the numbers of an order, and the pairs that it keeps.
use Rattle.std.specs.Prelude.{ℕ, ◌<◌, ◌≤◌, ◌≡◌, List, length, slice_index}
use Rattle.tcc_reads.specs.History.{History, count}
use Rattle.tcc_graph.specs.Relations.{IsReadsPair}
use Rattle.tcc_clocks.specs.Clocks.{LeadsOnward}
use Rattle.tcc_cert.specs.Rules.{HoldsEverywhere}
use Rattle.tcc_judge.specs.Orders.{BreaksPair}

-- each number below n is at its position
pub record ArePositions (n : ℕ) (order : List ℕ) (positions : List ℕ) : Type 0 where
  pub long : length positions ≡ n
  pub within : (a : ℕ) → a < n → slice_index positions a < length order
  pub here : (a : ℕ) → a < n → slice_index order (slice_index positions a) ≡ a

-- c reads from a, and does not come after it
abbrev pub IsTurned : History → List ℕ → ℕ × ℕ → Type 0
IsTurned h positions at = (x : List ℕ) × IsReadsPair h at.0 at.1 x × (slice_index positions at.1 ≤ slice_index positions at.0)

-- all pairs are in order, and these are the positions
pub record KeepsPairs (h : History) (order : List ℕ) (positions : List ℕ) : Type 0 where
  pub positions_are : ArePositions (count h) order positions
  pub reads : HoldsEverywhere (BreaksPair h order)
  pub onward : LeadsOnward h order
