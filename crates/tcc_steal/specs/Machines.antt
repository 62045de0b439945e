-- The machine as the code keeps it, with the ways on that each search has found. What it says of those is for proofs only.
use Rattle.std.specs.Prelude.{ℕ, ◌≡◌, List, map, All, Option, None, Some}
use Rattle.std.specs.Option.{option_map}
use Rattle.std.specs.List.{filter_map}
use Rattle.tcc_reads.specs.History.{count}
use Rattle.tcc_graph.specs.Levels.{Judged}
use Rattle.tcc_core.specs.Searches.{IsSearchOf}
use Rattle.tcc_core.specs.Shares.{Stop, Finished}
use Rattle.tcc_steal.specs.Worlds.{Searching, Worker, World, seeds_of}
use Rattle.tcc_steal.specs.Steps.{end_of}
use Rattle.tcc_steal.specs.declared.desk.Begun.{Begun}
use Rattle.tcc_steal.specs.declared.desk.WorkerState.{WorkerState}

-- how many starts there are; the word, the starts left, the seed, and the state of each worker
pub record Machine : Type 0 where
  pub starts : ℕ
  pub word : Option ℕ
  pub left : List ℕ
  pub seed : Option ℕ
  pub desks : List WorkerState

abbrev pub searching_by : Begun → Searching
searching_by b = record { start = b.search.start; row = b.search.row; stage = b.stage }

-- a search that has ended, as one that is finished
abbrev pub finished_at : Begun → Option Stop → Option Finished
finished_at b None = None
finished_at b (Some stop) = Some (record { start = b.search.start; row = b.search.row; stop = stop })

abbrev pub finished_by : Begun → Option Finished
finished_by b = finished_at b (end_of b.stage)

abbrev pub worker_of : WorkerState → Worker
worker_of desk =
    record {
      share = record { finished = filter_map finished_by desk.finished.items; offers = desk.offers.items; sight = desk.sight };
      search = option_map searching_by desk.search;
    }

-- the machine as its definition sees it
abbrev pub world_of : Machine → World
world_of m = record { word = m.word; left = m.left; seeds = seeds_of m.seed; workers = map worker_of m.desks }

abbrev pub IsSearchingOf : Judged → Option Begun → Type 0
IsSearchingOf j None = Unit {0}
IsSearchingOf j (Some b) = IsSearchOf j b.search.start b.search

-- a machine of this history at this level, from its beginning on
pub record IsMachineOf (j : Judged) (m : Machine) : Type 0 where
  pub starts : m.starts ≡ count j.history
  pub searches : All (λ desk. IsSearchingOf j desk.search) m.desks
