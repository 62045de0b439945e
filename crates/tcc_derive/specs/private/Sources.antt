-- The sources from which each transaction reads a key, as rows of marks; and the fewest steps to readers, which one level
-- after another lowers.
use Rattle.std.specs.Prelude.{ℕ, ◌<◌, ◌≤◌, ◌≡◌, ◌⊎◌, ◌↔◌, true, List, length, slice_index, Contains}
use Rattle.tcc_bits.specs.Bits.{is_marked, words_for}
use Rattle.tcc_derive.specs.private.Buckets.{bucket}
use Rattle.tcc_derive.specs.declared.read.Read.{Read}

-- the bucket of each transaction has the sources of its reads
pub record AreByReader (n : ℕ) (reads : List Read) (rows : List (List ℕ)) : Type 0 where
  pub long : length rows ≡ n
  pub each : (c : ℕ) (a : ℕ) → c < n → Contains (bucket rows c) a ↔ Contains reads (record { source = a; reader = c })

-- exactly the sources of the reads of each transaction are marked in its row
pub record AreSources (n : ℕ) (reads : List Read) (rows : List (List ℕ)) : Type 0 where
  pub long : length rows ≡ n
  pub wide : (c : ℕ) → c < n → length (bucket rows c) ≡ words_for n
  pub each : (c : ℕ) (a : ℕ) → c < n → (is_marked (bucket rows c) a ≡ true) ↔ Contains reads (record { source = a; reader = c })

-- rows of marks for some of the keys
pub record HaveSources (n : ℕ) (reads : List (List Read)) (table : List (List (List ℕ))) : Type 0 where
  pub long : length table ≡ length reads
  pub each : (k : ℕ) → k < length reads → (length (bucket table k) ≡ 0) ⊎ AreSources n (bucket reads k) (bucket table k)

-- what is seen has at most n steps
abbrev pub IsCovered : List ℕ → List ℕ → ℕ → Type 0
IsCovered seen nearest n = (a : ℕ) → is_marked seen a ≡ true → slice_index nearest a ≤ n

-- each of these has at most `distance` steps; and each number of steps is as it was, or is this one
pub record LowersEach (IsOne : ℕ → Type 0) (distance : ℕ) (old : List ℕ) (new : List ℕ) : Type 0 where
  pub long : length new ≡ length old
  pub kept : (a : ℕ) → slice_index new a ≤ slice_index old a
  pub lowered : (a : ℕ) → IsOne a → slice_index new a ≤ distance
  pub from : (a : ℕ) → (slice_index new a ≡ slice_index old a) ⊎ (IsOne a × (slice_index new a ≡ distance))

-- lowered by the reads of nearer readers, and of those at this distance below k
pub record LowersUpTo (reads : List Read) (steps : List ℕ) (distance : ℕ) (k : ℕ) (old : List ℕ) (new : List ℕ) : Type 0 where
  pub long : length new ≡ length old
  pub kept : (a : ℕ) → slice_index new a ≤ slice_index old a
  pub nearer : (r : Read) → Contains reads r → slice_index steps r.reader < distance → slice_index new r.source ≤ slice_index steps r.reader
  pub here : (r : Read) → Contains reads r → slice_index steps r.reader ≡ distance → r.reader < k → slice_index new r.source ≤ slice_index steps r.reader
  pub from : (a : ℕ) → (slice_index new a ≡ slice_index old a)
      ⊎ ((r : Read) × Contains reads r × (r.source ≡ a) × (slice_index new a ≡ slice_index steps r.reader))
