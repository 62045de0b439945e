-- How the numbers of each bucket are linked.
use Rattle.std.specs.Prelude.{ℕ, ◌≡◌, ◌<◌, ◌≤◌, ◌+◌, ◌-◌, ◌⊎◌, List, length, slice_index, cond, nat_lt}

-- the bucket of an index of the tables: for a number the bucket into which it was put, for the end of a bucket that bucket
unfoldable pub home : List ℕ → ℕ → ℕ
home bucket x = cond (nat_lt x (length bucket)) (slice_index bucket x) (x - length bucket)

-- what is next to an index in a bucket is in the same bucket, and has that index next to it on the other side
pub record IsPaired (size : ℕ) (next prev home : ℕ → ℕ) : Type 0 where
  pub same : (x : ℕ) → home x < size → home (next x) ≡ home x
  pub back : (x : ℕ) → home x < size → prev (next x) ≡ x

-- each way onward from a number in a bucket leads to a lower rank or to an end
abbrev pub Falls : ℕ → ℕ → (ℕ → ℕ) → (ℕ → ℕ) → (ℕ → ℕ) → Type 0
Falls count size next home rank = (v : ℕ) → v < count → home v < size → (count ≤ next v) ⊎ (rank (next v) < rank v)

-- tables that link the numbers of each bucket; by the ranks no numbers form a circle of their own
pub record AreLinked (size : ℕ) (next prev bucket : List ℕ) : Type 0 where
  pub next_long : length next ≡ length bucket + size
  pub prev_long : length prev ≡ length bucket + size
  pub few : length bucket + size < 4294967295
  pub onward : IsPaired size (slice_index next) (slice_index prev) (home bucket)
  pub back : IsPaired size (slice_index prev) (slice_index next) (home bucket)
  pub rank : ℕ → ℕ
  pub falls : Falls (length bucket) size (slice_index next) (home bucket) rank
