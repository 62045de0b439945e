-- What a search has reached by pairs, in a queue of numbers, each with the position of the one that led there.
use Rattle.std.specs.Prelude.{ℕ, ◌<◌, ◌≤◌, ◌≡◌, List, length, slice_index, slice_index_or}
use Rattle.tcc_txn.specs.declared.limits.TheConstants.{LARGE_COUNT}
use Rattle.tcc_reads.specs.History.{History, count}
use Rattle.tcc_graph.specs.Relations.{IsCausalPair}

-- the transaction at a position, and the position of the one that led there
abbrev pub number_at : List (ℕ × ℕ) → ℕ → ℕ
number_at queue i = (slice_index_or queue i (0, 0)).0

abbrev pub before_at : List (ℕ × ℕ) → ℕ → ℕ
before_at queue i = (slice_index_or queue i (0, 0)).1

-- for each of these ends, all transactions from the noted number to before the end were reached
abbrev pub AreCovered : List ℕ → List ℕ → Type 0
AreCovered positions covered = (end v : ℕ) → 0 < slice_index covered end → slice_index covered end ≤ v → v < end → 0 < slice_index positions v

-- each transaction after the first position is in the queue once, after one from which a pair leads to it, and its position is noted. For
-- each end all transactions from the noted number on were reached
pub record IsReach (h : History) (positions : List ℕ) (covered : List ℕ) (queue : List (ℕ × ℕ)) : Type 0 where
  pub few : count h ≤ LARGE_COUNT
  pub long : length positions ≡ count h
  pub some : 0 < length queue
  pub below : (i : ℕ) → i < length queue → number_at queue i < count h
  pub back : (i : ℕ) → 0 < i → i < length queue → slice_index positions (number_at queue i) ≡ i
  pub noted : (v : ℕ) → 0 < slice_index positions v → (slice_index positions v < length queue) × (number_at queue (slice_index positions v) ≡ v)
  pub led : (i : ℕ) → 0 < i → i < length queue → (before_at queue i < i) × IsCausalPair h (number_at queue (before_at queue i)) (number_at queue i)
  pub behind : AreCovered positions covered

-- what was in the queue is there as before, and what was reached is still reached
pub record IsMore (old : List ℕ) (older : List (ℕ × ℕ)) (new : List ℕ) (newer : List (ℕ × ℕ)) : Type 0 where
  pub longer : length older ≤ length newer
  pub same : (i : ℕ) → i < length older → slice_index_or newer i (0, 0) ≡ slice_index_or older i (0, 0)
  pub reached : (v : ℕ) → 0 < slice_index old v → 0 < slice_index new v

-- a transaction was reached if a pair leads to it and it is one of the first n of these numbers, or one from low to below high
abbrev pub AreMet : History → List ℕ → ℕ → List ℕ → ℕ → Type 0
AreMet h positions from numbers n = (k : ℕ) → k < n → IsCausalPair h from (slice_index numbers k) → 0 < slice_index positions (slice_index numbers k)

abbrev pub AreMetBetween : History → List ℕ → ℕ → ℕ → ℕ → Type 0
AreMetBetween h positions from low high = (v : ℕ) → low ≤ v → v < high → IsCausalPair h from v → 0 < slice_index positions v

-- each transaction was reached to which a pair leads from one of the first n positions
abbrev pub AreSpread : History → List ℕ → List (ℕ × ℕ) → ℕ → Type 0
AreSpread h positions queue n = (i v : ℕ) → i < n → IsCausalPair h (number_at queue i) v → 0 < slice_index positions v
