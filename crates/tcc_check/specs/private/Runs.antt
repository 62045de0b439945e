-- Runs of session pairs: numbers, each before the next in session order.
use Rattle.std.specs.Prelude.{ℕ, ◌<◌, ◌≤◌, ◌≡◌, ◌+◌, ◌⊎◌, List, length, slice_index}
use Rattle.tcc_reads.specs.History.{History, count}
use Rattle.tcc_graph.specs.Relations.{IsSessionPair}

-- u is `init`, or in the run that goes on from `begin`, and before `end`
abbrev pub IsInRun : ℕ → ℕ → ℕ → Type 0
IsInRun begin end u = (u < end) × ((u ≡ 0) ⊎ (begin ≤ u))

-- each run goes on from one number to the next, or begins anew
pub record HasRuns (begins : List ℕ) : Type 0 where
  pub within : (v : ℕ) → v < length begins → slice_index begins v ≤ v
  pub onward : (v : ℕ) → v + 1 < length begins → (slice_index begins (v + 1) ≡ v + 1) ⊎ (slice_index begins (v + 1) ≡ slice_index begins v)

-- what is in a transaction's run comes before it in session order, and nothing else does
pub record AreRuns (h : History) (begins : List ℕ) : Type 0 where
  pub long : length begins ≡ count h
  pub runs : HasRuns begins
  pub pairs : (u : ℕ) (v : ℕ) → v < count h → IsInRun (slice_index begins v) v u → IsSessionPair h u v
  pub whole : (u : ℕ) (v : ℕ) → IsSessionPair h u v → IsInRun (slice_index begins v) v u
