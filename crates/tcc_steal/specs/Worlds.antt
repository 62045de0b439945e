-- The machine of all interleavings: its states.
use Rattle.std.specs.Prelude.{ℕ, List, [], ◌∷◌, ◌++◌, map, flat_map, replicate, Option, None, Some, slice_index_or}
use Rattle.std.specs.List.{range_with_len}
use Rattle.tcc_core.specs.Shares.{Share}
use Rattle.tcc_steal.specs.declared.stage.Stage.{Stage}

-- a search that a worker has begun: its start, its row, and how far it is
pub record Searching : Type 0 where
  pub start : ℕ
  pub row : List (Option ℕ)
  pub stage : Stage

-- a worker: its share, that is, what it has finished, what it has offered and what it saw last; and at most one search
pub record Worker : Type 0 where
  pub share : Share
  pub search : Option Searching

-- A state of the machine: the word, which is a cost or none, the starts left, the offers with which it began, and the workers.
pub record World : Type 0 where
  pub word : Option ℕ
  pub left : List ℕ
  pub seeds : List ℕ
  pub workers : List Worker

-- a share of nothing
abbrev pub no_share : Share
no_share = record { finished = []; offers = []; sight = None }

-- a worker that has done nothing
abbrev pub new_worker : Worker
new_worker = record { share = no_share; search = None }

abbrev pub worker_at : World → ℕ → Worker
worker_at world w = slice_index_or world.workers w new_worker

-- the search of worker w; none where it is idle or doesn't exist
abbrev pub search_of : World → ℕ → Option Searching
search_of world w = (worker_at world w).search

-- all offers made
abbrev pub offers_of : World → List ℕ
offers_of world = world.seeds ++ flat_map (λ worker. worker.share.offers) world.workers

-- the start of a search, if there is one
abbrev pub start_of : Option Searching → List ℕ
start_of None = []
start_of (Some search) = search.start ∷ []

-- the starts that a worker holds or has finished
abbrev pub starts_with : Worker → List ℕ
starts_with worker = start_of worker.search ++ map (λ f. f.start) worker.share.finished

-- all starts: left, held or finished
abbrev pub all_starts : World → List ℕ
all_starts world = world.left ++ flat_map starts_with world.workers

-- an offer that no worker made is in a share of its own
abbrev pub seed_share : List ℕ → Share
seed_share seeds = record { finished = []; offers = seeds; sight = None }

-- the shares that the machine returns
abbrev pub shares_of : World → List Share
shares_of world = seed_share world.seeds ∷ map (λ worker. worker.share) world.workers

-- the seed as a list, empty if there is none
abbrev pub seeds_of : Option ℕ → List ℕ
seeds_of None = []
seeds_of (Some seed) = seed ∷ []

-- The beginning: this many starts are left, and this many workers have done nothing. Word and offers begin at the seed.
abbrev pub first_world : ℕ → ℕ → Option ℕ → World
first_world starts workers seed =
    record { word = seed; left = range_with_len 0 starts; seeds = seeds_of seed; workers = replicate workers new_worker }
