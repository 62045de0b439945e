-- How reads are called, by some of the writers that contradict them.
use Rattle.std.specs.Prelude.{ℕ, ◌<◌, ◌≤◌, ◌+◌, ◌≡◌, ◌⊎◌, List, length, slice_index_or, Contains}
use Rattle.tcc_reads.specs.History.{owner}
use Rattle.tcc_graph.specs.Keys.{key_at}
use Rattle.tcc_graph.specs.Levels.{Judged}
use Rattle.tcc_clocks.specs.declared.latest.TheConstants.{WIDE}
use Rattle.tcc_survey.specs.Names.{Fits, rank}
use Rattle.tcc_survey.specs.Contradictions.{IsLeastCalled, IsUsualName}
use Rattle.tcc_survey.specs.declared.called.Called.{Called}
use Rattle.tcc_survey.specs.declared.external_reads.Reading.{Reading}
use Rattle.tcc_survey.specs.declared.usual_name.UsualName.{UsualName}
use Rattle.tcc_survey.specs.declared.usual_name.UsualName.TheVariants as name
use Rattle.tcc_survey.specs.private.Settled.{IsAgainst, reading_of}

-- by the name, then by the number of the writer
abbrev pub IsNoLater : Called → Called → Type 0
IsNoLater n m = (rank n.name < rank m.name) ⊎ ((rank n.name ≡ rank m.name) × (n.writer ≤ m.writer))

-- a name that says more than that there is a chain
abbrev pub IsCloser : UsualName → Type 0
IsCloser it = rank it < rank name.CausalChain

abbrev pub as_called : UsualName → ℕ → Called
as_called it b = record { name = it; writer = b }

-- the name fits the writer of the read
abbrev pub FitsRead : Judged → Reading → Called → Type 0
FitsRead j r n = Fits j.history r.reader (key_at j.history r.key_index) n.writer n.name

-- a writer is looked at that is of a session before this index, or one of these, and each as the end of a chain
abbrev pub IsTried : Judged → ℕ → List ℕ → Called → Type 0
IsTried j from among m =
    (m.name ≡ name.CausalChain) ⊎ ((owner j.history m.writer < from) ⊎ (Contains among m.writer × (owner j.history m.writer < from + WIDE)))

-- the first name, and of it the least writer, of those that are looked at
pub record IsCalledAmong (j : Judged) (from : ℕ) (among : List ℕ) (r : Reading) (n : Called) : Type 0 where
  pub by : IsAgainst j r n.writer
  pub fits : FitsRead j r n
  pub first : (m : Called) → IsAgainst j r m.writer → FitsRead j r m → IsTried j from among m → IsNoLater n m

-- nothing contradicts the read; or this is the first of those whose session comes before the one of this index
abbrev pub IsCalledBefore : Judged → ℕ → Reading → Called → Type 0
IsCalledBefore j bound r n =
    ((n.writer ≡ 0) × ((b : ℕ) → IsAgainst j r b → ⊥))
    ⊎ ((0 < n.writer) × IsAgainst j r n.writer × FitsRead j r n
    × ((m : Called) → IsAgainst j r m.writer → FitsRead j r m → (m.name ≡ name.CausalChain) ⊎ (owner j.history m.writer < bound) → IsNoLater n m))

abbrev pub called_at : List Called → ℕ → Called
called_at all k = slice_index_or all k (as_called name.CausalChain 0)

-- of each read the first of those whose session comes before the one of this index
pub record AreCalledBefore (j : Judged) (reads : List Reading) (bound : ℕ) (all : List Called) : Type 0 where
  pub long : length all ≡ length reads
  pub each : (k : ℕ) → k < length reads → IsCalledBefore j bound (reading_of reads k) (called_at all k)

-- nothing contradicts the read; or it has this usual name and this writer
abbrev pub IsCalledSo : Judged → Reading → Called → Type 0
IsCalledSo j r n =
    ((n.writer ≡ 0) × ((b : ℕ) → IsAgainst j r b → ⊥))
    ⊎ ((0 < n.writer) × IsUsualName j r.reader (key_at j.history r.key_index) r.source n.name
    × IsLeastCalled j r.reader (key_at j.history r.key_index) r.source n.name n.writer)

-- how each read is called
pub record AreCalled (j : Judged) (reads : List Reading) (all : List Called) : Type 0 where
  pub long : length all ≡ length reads
  pub each : (k : ℕ) → k < length reads → IsCalledSo j (reading_of reads k) (called_at all k)
