-- The test of a row of prices and a row of costs, what passes it, and the shape of all tables.
use Rattle.std.specs.Prelude.{ℕ, zero, suc, ◌+◌, ◌<◌, ◌≤◌, ◌≡◌, Bool, ◌==◌, ◌&&◌, ◌||◌, not, if◌then◌else◌, List, [], ◌∷◌, ◌++◌, length, All, slice_index}
use Rattle.std.specs.List.{AllPairs}
use Rattle.tcc_reads.specs.History.{History, count}
use Rattle.tcc_graph.specs.Relations.{reads_from, has_items}
use Rattle.tcc_graph.specs.Tables.{row_of}
use Rattle.tcc_graph.specs.declared.level.Level.{Level}
use Rattle.tcc_near.specs.WalkLengths.{IsSquare}
use Rattle.tcc_near.specs.declared.walk_lengths.TheConstants.{NONE}
use Rattle.tcc_txn.specs.declared.limits.TheConstants.{MAX_COUNT}
use Rattle.tcc_derive.specs.private.Lowering.{HasPairs}
use Rattle.tcc_derive.specs.Prices.{Tables, IsEnd, end_of, others_at}

-- v has a price, or a causal pair that is one of reads
abbrev pub is_other : History → ℕ → List ℕ → List ℕ → ℕ → Bool
is_other h u prices costs v = not (slice_index prices v == NONE) || ((slice_index costs v == 1) && has_items (reads_from h u v))

-- what passes below n, each with its cost
abbrev pub others_below : History → ℕ → List ℕ → List ℕ → ℕ → List (ℕ × ℕ)
others_below h u prices costs zero = []
others_below h u prices costs (suc n) = others_below h u prices costs n ++ (if is_other h u prices costs n then (n, slice_index costs n) ∷ [] else [])

-- what passes by the prices from u and by some costs, which are 1 if one step leads there, else the price
abbrev pub IsOtherRow : History → ℕ → List ℕ → List ℕ → List (ℕ × ℕ) → Type 0
IsOtherRow h u steps prices row = (costs : List ℕ) × HasPairs steps prices costs × (row ≡ others_below h u prices costs (count h))

-- for each transaction a row of the others that links lead to
pub record HasOtherRows (h : History) (near : List (List ℕ)) (prices : List (List ℕ)) (rows : List (List (ℕ × ℕ))) : Type 0 where
  pub long : length rows ≡ count h
  pub each : (u : ℕ) → u < count h → IsOtherRow h u (row_of near u) (row_of prices u) (row_of rows u)

-- the end of the numbers that session pairs lead to, for each transaction
pub record HasEnds (h : History) (ends : List ℕ) : Type 0 where
  pub long : length ends ≡ count h
  pub each : (u : ℕ) → u < count h → IsEnd h u (slice_index ends u)

-- the tables of these rows, at a level
abbrev pub tables_of : Level → List (List ℕ) → List ℕ → List (List (ℕ × ℕ)) → ℕ → Tables
tables_of level prices ends others limit = record { level = level; prices = prices; ends = ends; others = others; limit = limit }

-- tables for n transactions, which name no others
pub record IsShaped (n : ℕ) (t : Tables) : Type 0 where
  pub few : n ≤ MAX_COUNT
  pub prices : IsSquare n t.prices
  pub ends : length t.ends ≡ n
  pub ended : (u : ℕ) → u < n → (u + 1 ≤ end_of t u) × (end_of t u ≤ n)
  pub others : length t.others ≡ n
  pub within : (u : ℕ) → u < n → All (λ p. p.0 < n) (others_at t u)
  pub ascending : (u : ℕ) → u < n → AllPairs (λ p q. p.0 < q.0) (others_at t u)
