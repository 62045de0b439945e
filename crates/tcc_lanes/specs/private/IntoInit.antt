-- Lanes of keys: where they begin, and where they are read from `init`.
use Rattle.std.specs.Prelude.{ℕ, ◌<◌, ◌≤◌, ◌≡◌, ◌↔◌, true, List, length, slice_index}
use Rattle.tcc_reads.specs.History.{History, count}
use Rattle.tcc_graph.specs.Keys.{keys, key_at, writes}
use Rattle.tcc_graph.specs.Levels.{Judged}
use Rattle.tcc_graph.specs.Links.{IsReason}
use Rattle.tcc_graph.specs.Relations.{IsReadsPair}
use Rattle.tcc_graph.specs.declared.step.Step.{Step}
use Rattle.tcc_lanes.specs.declared.words.TheConstants.{LANES}
use Rattle.tcc_lanes.specs.private.Marks.{HasLane, IsAt}

-- v writes the key of a lane
abbrev pub IsWrittenBy : History → List ℕ → ℕ → ℕ → Type 0
IsWrittenBy h key_lanes v i = (k : ℕ) × (k < length (keys h)) × (writes h v (key_at h k) ≡ true) × IsAt key_lanes k i

-- each lane is marked at the transactions before the end that write its key, except `init`, and nowhere else
pub record AreBegun (h : History) (key_lanes : List ℕ) (end : ℕ) (begun : List ℕ) : Type 0 where
  pub long : length begun ≡ count h
  pub each : (v i : ℕ) → v < count h → i < LANES → IsAt begun v i ↔ ((0 < v) × (v < end) × IsWrittenBy h key_lanes v i)

-- the reader reads the key of one of the lanes in a word from `init`
abbrev pub IsReadOfInit : History → List ℕ → ℕ → ℕ → Type 0
IsReadOfInit h key_lanes word reader =
    (i : ℕ) × (i < LANES) × HasLane word i × (k : ℕ) × (k < length (keys h)) × IsReadsPair h 0 reader (key_at h k) × IsAt key_lanes k i

-- a reader that lanes have come to reads the key of one of them from `init`
abbrev pub IsMetByInit : History → List ℕ → List ℕ → Type 0
IsMetByInit h key_lanes reached = (reader : ℕ) × (reader < count h) × IsReadOfInit h key_lanes (slice_index reached reader) reader

-- a derived link leads from b into `init`, by a reader of the key at an index and a walk of at most `most` steps
abbrev pub LeadsIntoInit : Judged → ℕ → ℕ → ℕ → Type 0
LeadsIntoInit j most k b = (c : ℕ) × (walk : List Step) × IsReason j b 0 (key_at j.history k) c walk × (length walk ≤ most)

-- such a link leads there from before the end
abbrev pub IsIntoInit : Judged → ℕ → ℕ → ℕ → Type 0
IsIntoInit j most end k = (b : ℕ) × (b < end) × LeadsIntoInit j most k b

-- and does so by one of these keys
abbrev pub HasIntoInit : Judged → ℕ → ℕ → List ℕ → Type 0
HasIntoInit j most end key_indices = (n : ℕ) × (n < length key_indices) × IsIntoInit j most end (slice_index key_indices n)

-- by these keys none leads there from before low; and one leads there from low itself, unless low is the end
pub record IsLowestInto (j : Judged) (most : ℕ) (end : ℕ) (key_indices : List ℕ) (low : ℕ) : Type 0 where
  pub some : 0 < low
  pub within : low ≤ end
  pub none : HasIntoInit j most low key_indices → ⊥
  pub here : low < end → (n : ℕ) × (n < length key_indices) × LeadsIntoInit j most (slice_index key_indices n) low
