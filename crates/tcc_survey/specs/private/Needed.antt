-- Which blocks of sessions have a writer that may contradict a read.
use Rattle.std.specs.Prelude.{ℕ, ◌<◌, ◌≡◌, Bool, List, length}
use Rattle.tcc_reads.specs.History.{owner}
use Rattle.tcc_graph.specs.Levels.{Judged}
use Rattle.tcc_clocks.specs.declared.needed.KeySources.{KeySources}
use Rattle.tcc_clocks.specs.Needed.{IsMarked, IsSourceOf, sources_at}
use Rattle.tcc_survey.specs.declared.external_reads.Reading.{Reading}
use Rattle.tcc_survey.specs.private.Settled.{IsAgainst, reading_of}

-- the sources of the first n reads are among those of their keys
pub record AreSourcesOf (reads : List Reading) (n : ℕ) (count : ℕ) (all : List KeySources) : Type 0 where
  pub long : length all ≡ count
  pub each : (k : ℕ) → k < n → IsSourceOf (sources_at all (reading_of reads k).key_index) (reading_of reads k).source

-- the blocks of all that contradict one of these reads
abbrev pub AreBlocksNeeded : Judged → List Reading → List Bool → Type 0
AreBlocksNeeded j reads needed = (k : ℕ) → k < length reads → (b : ℕ) → 0 < b → IsAgainst j (reading_of reads k) b
    → IsMarked needed (owner j.history b)
