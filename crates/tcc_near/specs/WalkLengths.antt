-- The least numbers of steps of the walks that a level allows, and tables of them.
use Rattle.std.specs.Prelude.{ℕ, ◌<◌, ◌≤◌, ◌≡◌, ◌==◌, List, length, All, Option, None, Some, if◌then◌else◌, slice_index}
use Rattle.tcc_reads.specs.History.{count}
use Rattle.tcc_graph.specs.Levels.{Judged, IsAllowedWalk}
use Rattle.tcc_graph.specs.declared.level.Level.{Level}
use Rattle.tcc_graph.specs.declared.step.Step.{Step}
use Rattle.tcc_near.specs.declared.walk_lengths.TheConstants.{NONE}
use Rattle.tcc_graph.specs.Tables.{row_of}

-- an allowed walk from a to b has n steps, and none has fewer
pub record IsShortest (j : Judged) (a : ℕ) (b : ℕ) (n : ℕ) : Type 0 where
  pub attained : (walk : List Step) × IsAllowedWalk j a b walk × (length walk ≡ n)
  pub least : (walk : List Step) → IsAllowedWalk j a b walk → n ≤ length walk

-- the least number of steps of an allowed walk from a to b; none if there is no such walk
abbrev pub IsWalkLength : Judged → ℕ → ℕ → Option ℕ → Type 0
IsWalkLength j a b None = (walk : List Step) → IsAllowedWalk j a b walk → ⊥
IsWalkLength j a b (Some n) = IsShortest j a b n

-- what a row holds, as a number or none
abbrev pub least_in : List ℕ → ℕ → Option ℕ
least_in row b = if slice_index row b == NONE then None else Some (slice_index row b)

-- what the rows have from a to b
abbrev pub least : List (List ℕ) → ℕ → ℕ → Option ℕ
least rows a b = least_in (row_of rows a) b

-- a row for each number below n, and in it a value for each
pub record IsSquare (n : ℕ) (table : List (List ℕ)) : Type 0 where
  pub long : length table ≡ n
  pub wide : All (λ row. length row ≡ n) table

-- a table of walk lengths, and the level of their walks
pub record NearTable : Type 0 where
  pub level : Level
  pub rows : List (List ℕ)

-- the table has the walk length from each transaction to each, itself among them, at the level of the judged history
pub record IsNearOf (j : Judged) (near : NearTable) : Type 0 where
  pub level : near.level ≡ j.level
  pub square : IsSquare (count j.history) near.rows
  pub exact : (a : ℕ) (b : ℕ) → a < count j.history → b < count j.history → IsWalkLength j a b (least near.rows a b)
  -- no shortest walk visits a transaction twice, except its start at its end
  pub short : (a : ℕ) (b : ℕ) (n : ℕ) → a < count j.history → b < count j.history → least near.rows a b ≡ Some n → n ≤ count j.history
