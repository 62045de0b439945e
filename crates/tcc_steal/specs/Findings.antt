-- The result of a search by many workers.
use Rattle.std.specs.Prelude.{ℕ, ◌<◌, ◌≤◌, ◌≡◌, ◌-◌, List, length, map, drop, All, Option, None, Some, slice_index_or}
use Rattle.tcc_reads.specs.History.{count}
use Rattle.tcc_graph.specs.Levels.{Judged}
use Rattle.tcc_graph.specs.Orders.{IsNumbering}
use Rattle.tcc_graph.specs.Routes.{IsDistance}
use Rattle.tcc_graph.specs.Tables.{row_of}
use Rattle.tcc_derive.specs.Prices.{Tables, IsPricesOf}
use Rattle.tcc_core.specs.Shares.{Share, SettleAt, EachFinished, capped, IsCappedDistance}
use Rattle.tcc_steal.specs.declared.found.Found.{Found}

-- the prices are those of some history at some level
abbrev pub HasJudged : Tables → Type 0
HasJudged t = (j : Judged) × IsPricesOf j t

-- none where there is no cycle; else the lowest start from which a route upward leads back at the cost of a least cycle
abbrev pub IsFirst : Judged → Option ℕ → Option ℕ → Type 0
IsFirst j None first = first ≡ None
IsFirst j (Some b) None = ⊥
IsFirst j (Some b) (Some s) = (s < count j.history) × IsDistance j s s b × ((t : ℕ) → t < s → IsDistance j t t b → ⊥)

-- the result of a search by this many workers
pub record IsFound (j : Judged) (workers : ℕ) (found : Found) : Type 0 where
  -- what the workers returned settles at `least`
  pub shares : List Share
  pub settle : SettleAt j shares found.least
  -- a row for each start: that of its search from the start upward, capped at `least` where there is one
  pub long : length found.rows.items ≡ count j.history
  pub rows : EachFinished shares (λ f. row_of found.rows.items f.start ≡ map (capped found.least) (drop f.start f.row))
  -- the capped distances from each start to each transaction from there upward
  pub wide : (s : ℕ) → s < count j.history → length (row_of found.rows.items s) ≡ count j.history - s
  pub exact : (s : ℕ) (v : ℕ) → s ≤ v → v < count j.history → IsCappedDistance j s v found.least (slice_index_or (row_of found.rows.items s) (v - s) None)
  pub first : IsFirst j found.least found.first
  -- each start is there once, with one of the workers
  pub once : IsNumbering (count j.history) (map (λ p. p.1) found.starts.items)
  pub by : All (λ p. p.0 < workers) found.starts.items
