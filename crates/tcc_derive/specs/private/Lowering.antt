-- Rows of prices that reads lower, and of costs.
use Rattle.std.specs.Prelude.{ℕ, ◌+◌, ◌<◌, ◌≤◌, ◌≡◌, ◌≢◌, ◌==◌, ◌⊎◌, List, length, min, if◌then◌else◌, slice_index, Contains, All}
use Rattle.tcc_derive.specs.declared.read.Read.{Read}
use Rattle.tcc_near.specs.declared.walk_lengths.TheConstants.{NONE}

-- one more, but at most what a row can hold
abbrev pub one_more : ℕ → ℕ
one_more n = min (n + 1) NONE

-- what it costs to contradict a read, by the walk lengths to its reader
abbrev pub price_by : List ℕ → Read → ℕ
price_by steps r = one_more (slice_index steps r.reader)

-- the source of each read has at most as many steps as lead to the reader; and each number of steps comes from one of the
-- reads, or is as it was
pub record Lowers (reads : List Read) (steps : List ℕ) (old : List ℕ) (new : List ℕ) : Type 0 where
  pub long : length new ≡ length old
  pub kept : (a : ℕ) → slice_index new a ≤ slice_index old a
  pub lowered : (r : Read) → Contains reads r → slice_index new r.source ≤ slice_index steps r.reader
  pub from : (a : ℕ) → (slice_index new a ≡ slice_index old a)
      ⊎ ((r : Read) × Contains reads r × (r.source ≡ a) × (slice_index new a ≡ slice_index steps r.reader))

-- The source of each read costs at most what it costs b to contradict the read, unless b itself is the source. Each cost comes
-- from one of the reads, or is none.
pub record ArePricedBy (reads : List Read) (steps : List ℕ) (b : ℕ) (costs : List ℕ) : Type 0 where
  pub long : length costs ≡ length steps
  pub lowered : (r : Read) → Contains reads r → r.source ≢ b → slice_index costs r.source ≤ price_by steps r
  pub from : (a : ℕ) → a < length steps → (slice_index costs a ≡ NONE)
      ⊎ ((r : Read) × Contains reads r × (r.source ≡ a) × (a ≢ b) × (slice_index costs a ≡ price_by steps r))

-- the keys have buckets of reads, whose sources and readers are below n
pub record HaveReads (n : ℕ) (reads : List (List Read)) (keys : List ℕ) : Type 0 where
  pub inside : All (λ k. k < length reads) keys
  pub sources : All (λ bucket. All (λ r. r.source < n) bucket) reads
  pub readers : All (λ bucket. All (λ r. r.reader < n) bucket) reads

-- 1 if one step leads there, else the price
pub record HasPairs (steps : List ℕ) (prices : List ℕ) (costs : List ℕ) : Type 0 where
  pub long : length costs ≡ length prices
  pub each : (v : ℕ) → v < length prices → slice_index costs v ≡ (if slice_index steps v == 1 then 1 else slice_index prices v)
