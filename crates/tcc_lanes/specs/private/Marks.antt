-- Marks of 64 lanes, a word for each transaction.
use Rattle.std.specs.Prelude.{ℕ, ◌<◌, ◌≡◌, ◌↔◌, ◌==◌, true, if◌then◌else◌, List, bit_or, length, slice_index}
use Rattle.std.specs.Int.{bit_at}
use Rattle.tcc_reads.specs.History.{History}
use Rattle.tcc_graph.specs.Keys.{keys, key_at, writes}
use Rattle.tcc_graph.specs.Relations.{IsCausalPair, IsSessionPair}
use Rattle.tcc_least.specs.Shapes.{IsRead}
use Rattle.tcc_lanes.specs.declared.words.TheConstants.{LANES}

-- the word has the mark of a lane
abbrev pub HasLane : ℕ → ℕ → Type 0
HasLane word i = bit_at word i ≡ 1

-- the lane is marked at v
abbrev pub IsAt : List ℕ → ℕ → ℕ → Type 0
IsAt marks v i = HasLane (slice_index marks v) i

-- a pair leads to v from where the lane is marked
abbrev pub IsLedTo : History → List ℕ → ℕ → ℕ → Type 0
IsLedTo h marks v i = (u : ℕ) × IsCausalPair h u v × IsAt marks u i

-- v reads from where it is marked
abbrev pub IsReadFrom : History → List ℕ → ℕ → ℕ → Type 0
IsReadFrom h marks v i = (u : ℕ) × IsRead h u v × IsAt marks u i

-- the word of the lanes that are marked before v in session order
abbrev pub IsRun : History → List ℕ → ℕ → ℕ → Type 0
IsRun h marks v word = (i : ℕ) → i < LANES → HasLane word i ↔ ((u : ℕ) × IsSessionPair h u v × IsAt marks u i)

-- the word of the lanes before v, from that of the previous index
abbrev pub run_on : List ℕ → List ℕ → ℕ → ℕ → ℕ
run_on parents marks run v =
    if v == 0 then 0
    else if slice_index parents v == 0 then slice_index marks 0
    else bit_or run (slice_index marks (slice_index parents v))

-- each of the first lanes is marked at its index, and nowhere else
pub record AreMarksOf (count : ℕ) (indices : List ℕ) (end : ℕ) (marks : List ℕ) : Type 0 where
  pub long : length marks ≡ count
  pub each : (v i : ℕ) → v < count → i < LANES → IsAt marks v i ↔ ((i < end) × (slice_index indices i ≡ v))

-- each of the first lanes is marked at the keys that its transaction writes, and nowhere else
pub record AreWriterMarks (h : History) (writers : List ℕ) (end : ℕ) (marks : List ℕ) : Type 0 where
  pub long : length marks ≡ length (keys h)
  pub each : (k i : ℕ) → k < length (keys h) → i < LANES → IsAt marks k i ↔ ((i < end) × (writes h (slice_index writers i) (key_at h k) ≡ true))
