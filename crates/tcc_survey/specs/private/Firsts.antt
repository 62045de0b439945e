-- First numbers that transactions reach, by what comes right after each, along an order turned round.
use Rattle.std.specs.Prelude.{ℕ, ◌<◌, ◌≤◌, ◌≡◌, ◌+◌, List, length, slice_index, Contains}
use Rattle.tcc_reads.specs.History.{History, count}
use Rattle.tcc_graph.specs.Relations.{IsCausalPair, IsReadsPair, IsSessionPair}
use Rattle.tcc_graph.specs.Orders.{Before}
use Rattle.tcc_clocks.specs.Clocks.{AreEntries, HasRows, IsAfter}
use Rattle.tcc_clocks.specs.declared.latest.TheConstants.{WIDE}
use Rattle.tcc_clocks.specs.declared.side.Side.TheVariants.{Future}

-- of each session of the block a number up to which none is of it
pub record AreFirstNumbers (owners : List ℕ) (from : ℕ) (row : List ℕ) : Type 0 where
  pub wide : length row ≡ WIDE
  pub each : (k : ℕ) → k < WIDE → (b : ℕ) → b < length owners → slice_index owners b ≡ from + k → slice_index row k ≤ b

-- a row says of each session of the block that begins at `from` which of those meant is the first
abbrev pub AreFirstOf : History → (ℕ → Type 0) → ℕ → List ℕ → Type 0
AreFirstOf h Is from row = AreEntries Future h Is from row

-- the row of a transaction says which is the first that it reaches
abbrev pub IsFirstRow : History → ℕ → ℕ → List ℕ → Type 0
IsFirstRow h from = λ a row. AreFirstOf h (IsAfter h a) from row

-- the row of each transaction says what it reaches
abbrev pub AreFirsts : History → ℕ → List (List ℕ) → Type 0
AreFirsts h from table = HasRows h (IsFirstRow h from) (λ a. a < count h) table

-- causal pairs lead backward in the order
abbrev pub LeadsBackward : History → List ℕ → Type 0
LeadsBackward h order = (b c : ℕ) → IsCausalPair h b c → Before order c b

-- what comes right after a: the next of its session, and its readers
pub record AreChildren (h : History) (a : ℕ) (children : List ℕ) : Type 0 where
  pub pairs : (p : ℕ) → Contains children p → IsCausalPair h a p
  pub next : IsSessionPair h a (a + 1) → Contains children (a + 1)
  pub readers : (p : ℕ) (x : List ℕ) → IsReadsPair h a p x → Contains children p
