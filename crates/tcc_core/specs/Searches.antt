-- Searches from one start, and how transactions join them.
use Rattle.std.specs.Prelude.{ℕ, ◌<◌, ◌≡◌, ◌≢◌, List, Option}
use Rattle.tcc_reads.specs.History.{count}
use Rattle.tcc_graph.specs.Levels.{Judged}
use Rattle.tcc_core.specs.Rows.{IsSearchRow, cap_of, IsCutOff, JoinsNearest}
use Rattle.tcc_core.specs.Frontiers.{IsFrontier}
use Rattle.tcc_core.specs.declared.settled.Settled.{Settled}
use Rattle.tcc_core.specs.declared.settled.Settled.TheVariants as settled

-- A start, its row, what the way over the row to each transaction outside it costs, and the limit up to which all ways are known. Nothing
-- below the start is ever looked at.
pub record Search : Type 0 where
  pub start : ℕ
  pub row : List (Option ℕ)
  pub costs : List ℕ
  pub limit : ℕ

-- a search from s of this history at this level, from its beginning on; what it says of the costs is for proofs only
pub record IsSearchOf (j : Judged) (s : ℕ) (search : Search) : Type 0 where
  pub start : search.start ≡ s
  pub below : s < count j.history
  pub row : IsSearchRow j s search.row
  pub frontier : IsFrontier j s search.limit search.row search.costs

-- One more is settled: one of the nearest outside the row and within the cap joins it. Where it is the start itself, the search has
-- returned with its distance. Where there is none, the row stays, and the search is cut at the cap.
abbrev pub Settles : Judged → ℕ → ℕ → List (Option ℕ) → List (Option ℕ) → Settled → Type 0
Settles j s cap old new settled.More = (v : ℕ) × (distance : ℕ) × (v ≢ s) × JoinsNearest j s (cap_of cap) old new v distance
Settles j s cap old new (settled.Returned distance) = JoinsNearest j s (cap_of cap) old new s distance
Settles j s cap old new (settled.Cut k) = (k ≡ cap) × (new ≡ old) × IsCutOff j s old (cap_of cap)
