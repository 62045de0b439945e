-- Rows and tables of prices and costs.
use Rattle.std.specs.Prelude.{ℕ, ◌<◌, ◌≤◌, ◌≡◌, ◌+◌, List, length, Some}
use Rattle.tcc_reads.specs.History.{History, count}
use Rattle.tcc_graph.specs.Levels.{Judged}
use Rattle.tcc_near.specs.WalkLengths.{least_in}
use Rattle.tcc_derive.specs.Prices.{IsPrice, IsCost}
use Rattle.tcc_graph.specs.Tables.{row_of}

-- the row has the least costs of derived links from b
pub record IsPriceRow (j : Judged) (b : ℕ) (row : List ℕ) : Type 0 where
  pub long : length row ≡ count j.history
  pub priced : (a : ℕ) → a < count j.history → IsPrice j b a (least_in row a)
  pub few : (a : ℕ) (n : ℕ) → a < count j.history → least_in row a ≡ Some n → n ≤ count j.history + 1

-- the row has the least costs of links from u
pub record IsCostRow (j : Judged) (u : ℕ) (row : List ℕ) : Type 0 where
  pub long : length row ≡ count j.history
  pub costed : (v : ℕ) → v < count j.history → IsCost j u v (least_in row v)

-- a row for each transaction
pub record HasRows (h : History) (IsRow : ℕ → List ℕ → Type 0) (rows : List (List ℕ)) : Type 0 where
  pub long : length rows ≡ count h
  pub each : (b : ℕ) → b < count h → IsRow b (row_of rows b)
