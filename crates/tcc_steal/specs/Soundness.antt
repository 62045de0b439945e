-- What every run of the machine keeps.
use Rattle.std.specs.Prelude.{ℕ, ◌<◌, ◌≤◌, ◌≡◌, List, [], All, Contains, Option, None, Some}
use Rattle.tcc_reads.specs.History.{count}
use Rattle.tcc_graph.specs.Levels.{Judged}
use Rattle.tcc_graph.specs.Orders.{IsNumbering}
use Rattle.tcc_core.specs.Rows.{in_row, IsSearchRow, IsCutOff}
use Rattle.tcc_core.specs.Shares.{Share, IsNotAbove, IsFinished, IsCycleCost, starts_of}
use Rattle.tcc_steal.specs.Worlds.{Searching, Worker, World, offers_of, all_starts, shares_of}
use Rattle.tcc_steal.specs.declared.stage.Stage.{Stage}
use Rattle.tcc_steal.specs.declared.stage.Stage.TheVariants as stage

-- the least of the offers, none where there are none
abbrev pub IsLeastOf : Option ℕ → List ℕ → Type 0
IsLeastOf None offers = offers ≡ []
IsLeastOf (Some b) offers = Contains offers b × All (λ c. b ≤ c) offers

-- A search that goes on has its start outside its row. One that has returned has it there at its cost. One that was cut has nothing outside
-- its row within a cap that is not below the worker's sight.
abbrev pub IsAtStage : Judged → Share → ℕ → List (Option ℕ) → Stage → Type 0
IsAtStage j share s row stage.Open = in_row row s ≡ None
IsAtStage j share s row (stage.Returned c) = in_row row s ≡ Some c
IsAtStage j share s row (stage.Offered c) = (in_row row s ≡ Some c) × Contains share.offers c
IsAtStage j share s row (stage.Cut cap) = IsNotAbove share.sight cap × (in_row row s ≡ None) × IsCutOff j s row cap

-- a search that a worker with this share has begun: its row is exact and closed
pub record IsBegun (j : Judged) (share : Share) (search : Searching) : Type 0 where
  pub row : IsSearchRow j search.start search.row
  pub at : IsAtStage j share search.start search.row search.stage

abbrev pub IsBegunIfAny : Judged → Share → Option Searching → Type 0
IsBegunIfAny j share None = Unit {0}
IsBegunIfAny j share (Some search) = IsBegun j share search

-- A worker, where this is the word: the word is not above its sight, and the rows of its searches, finished or not, are exact and closed.
pub record IsWorking (j : Judged) (word : Option ℕ) (worker : Worker) : Type 0 where
  pub below_sight : IsNotAbove word worker.share.sight
  pub finished : All (IsFinished j worker.share) worker.share.finished
  pub search : IsBegunIfAny j worker.share worker.search

-- The word is the least offer, each offer is the cost of a cycle, and the word is not above any sight. Every row is exact and closed, and
-- every start is once among those left, held and finished.
pub record IsSound (j : Judged) (world : World) : Type 0 where
  pub least : IsLeastOf world.word (offers_of world)
  pub offered : All (IsCycleCost j) (offers_of world)
  pub workers : All (IsWorking j world.word) world.workers
  pub once : IsNumbering (count j.history) (all_starts world)

-- a seed, if there is one, is the cost of a cycle
abbrev pub IsSeed : Judged → Option ℕ → Type 0
IsSeed j None = Unit {0}
IsSeed j (Some seed) = IsCycleCost j seed

-- each start below this count is finished
abbrev pub AllFinished : ℕ → World → Type 0
AllFinished starts world = (s : ℕ) → s < starts → Contains (starts_of (shares_of world)) s
