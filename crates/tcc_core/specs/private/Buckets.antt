-- Numbers in buckets: for each number its bucket, or a greater number where it is in none.
use Rattle.std.specs.Prelude.{ℕ, ◌≡◌, ◌≢◌, ◌<◌, ◌≤◌, List, length, slice_index}
use Rattle.tcc_core.specs.declared.bucket_queue.TheConstants.{BUCKETS}

-- the number is in this bucket
pub record StandsIn (buckets : List ℕ) (b v : ℕ) : Type 0 where
  pub below : v < length buckets
  pub at : slice_index buckets v ≡ b

abbrev pub IsOutOf : List ℕ → ℕ → ℕ → Type 0
IsOutOf buckets b v = v < length buckets → slice_index buckets v ≢ b

-- no number is in any bucket
abbrev pub AreEmptyBuckets : List ℕ → Type 0
AreEmptyBuckets buckets = (v : ℕ) → v < length buckets → BUCKETS ≤ slice_index buckets v
