-- Rows of distances from one start, over numbers from there upward.
use Rattle.std.specs.Prelude.{ℕ, ◌≤◌, ◌≡◌, ◌==◌, List, length, Option, None, Some, if◌then◌else◌, slice_index_or, slice_set}
use Rattle.tcc_reads.specs.History.{count}
use Rattle.tcc_graph.specs.Levels.{Judged}
use Rattle.tcc_graph.specs.Links.{cost}
use Rattle.tcc_graph.specs.Routes.{IsUpwardRoute, IsDistance}
use Rattle.tcc_graph.specs.declared.link.Link.{Link}

-- what the row has for a transaction: its distance from the start, or none where it is outside
abbrev pub in_row : List (Option ℕ) → ℕ → Option ℕ
in_row row v = slice_index_or row v None

-- The row has a value for each transaction. What it has is the distance, and nothing outside is nearer than anything inside. What is below
-- the start is outside, since no upward route leads there.
pub record IsSearchRow (j : Judged) (s : ℕ) (row : List (Option ℕ)) : Type 0 where
  pub long : length row ≡ count j.history
  pub exact : (v : ℕ) (distance : ℕ) → in_row row v ≡ Some distance → IsDistance j s v distance
  pub closed : (v : ℕ) (u : ℕ) (distance : ℕ) (links : List Link) → in_row row v ≡ Some distance → in_row row u ≡ None → IsUpwardRoute j s u links
      → distance ≤ cost links

-- a value for each of n transactions, and all of them outside
pub record IsEmptyRow (n : ℕ) (row : List (Option ℕ)) : Type 0 where
  pub long : length row ≡ n
  pub empty : (v : ℕ) → in_row row v ≡ None

-- a cap as a number of 64 bits, the greatest of which is none
abbrev pub cap_of : ℕ → Option ℕ
cap_of cap = if cap == 18446744073709551615 then None else Some cap

-- a cost is at most the cap; without a cap every cost is within it
abbrev pub IsWithin : Option ℕ → ℕ → Type 0
IsWithin None c = Unit {0}
IsWithin (Some cap) c = c ≤ cap

-- no upward route to anything outside the row is within the cap
abbrev pub IsCutOff : Judged → ℕ → List (Option ℕ) → Option ℕ → Type 0
IsCutOff j s row cap =
    (v : ℕ) (links : List Link) → in_row row v ≡ None → IsUpwardRoute j s v links → IsWithin cap (cost links) → ⊥

-- v, one of the nearest outside the row, is within the cap and joins the row with its distance from s. What else the row has stays.
pub record JoinsNearest (j : Judged) (s : ℕ) (cap : Option ℕ) (old : List (Option ℕ)) (new : List (Option ℕ)) (v : ℕ) (distance : ℕ) : Type 0 where
  pub outside : in_row old v ≡ None
  pub exact : IsDistance j s v distance
  pub nearest : (u : ℕ) (links : List Link) → in_row old u ≡ None → IsUpwardRoute j s u links → distance ≤ cost links
  pub within : IsWithin cap distance
  pub joined : new ≡ slice_set old v (Some distance)
