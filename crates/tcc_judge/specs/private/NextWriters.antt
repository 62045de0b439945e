-- For each key and each session of a block the least transaction that writes the key and comes after some place of an order.
use Rattle.std.specs.Prelude.{ℕ, ◌<◌, ◌≤◌, ◌≡◌, ◌+◌, true, min, List, All, Contains, length, replicate, set, slice_index}
use Rattle.tcc_reads.specs.History.{History, count, owner}
use Rattle.tcc_graph.specs.Keys.{keys, key_at, writes}
use Rattle.tcc_graph.specs.Tables.{row_of}
use Rattle.tcc_judge.specs.declared.least.TheConstants.{NONE}
use Rattle.tcc_clocks.specs.declared.latest.TheConstants.{WIDE}
use Rattle.tcc_judge.specs.private.Least.{IsLeastOf}

-- rows that are each held for one key; but the first one is that of all keys for which nothing was noted
pub record AreHeldOnce (rows : List (List ℕ)) (which : List ℕ) : Type 0 where
  pub some : 0 < length rows
  pub none : row_of rows 0 ≡ replicate WIDE NONE
  pub inside : All (λ n. n < length rows) which
  pub once : (j k : ℕ) → j < length which → k < length which → slice_index which j ≡ slice_index which k → 0 < slice_index which j → j ≡ k

-- a row with the number of a session lowered to this one
abbrev pub lowered : List ℕ → ℕ → ℕ → List ℕ
lowered row session number = set row session (min number (slice_index row session))

-- for these keys the number of a session is lowered to this one, and all others are unchanged
pub record AreLowered (key_indices : List ℕ) (session : ℕ) (number : ℕ) (old : List (List ℕ)) (new : List (List ℕ)) : Type 0 where
  pub long : length new ≡ length old
  pub wide : (k : ℕ) → k < length old → length (row_of new k) ≡ length (row_of old k)
  pub here : (k : ℕ) → k < length old → Contains key_indices k
      → slice_index (row_of new k) session ≡ min number (slice_index (row_of old k) session)
  pub kept : (k s : ℕ) → k < length old → (Contains key_indices k → s ≡ session → ⊥) → slice_index (row_of new k) s ≡ slice_index (row_of old k) s

-- b, a committed transaction of the session, writes the key, and is at this place of the order or after it
pub record IsNextWriter (h : History) (order : List ℕ) (x : List ℕ) (session : ℕ) (place : ℕ) (b : ℕ) : Type 0 where
  pub committed : 0 < b
  pub below : b < count h
  pub owned : owner h b ≡ session
  pub writes : writes h b x ≡ true
  pub index : ℕ
  pub behind : place ≤ index
  pub inside : index < length order
  pub here : slice_index order index ≡ b

-- for each key and each session of the block that begins at `from` the least of them
pub record AreNextWriters (h : History) (order : List ℕ) (from : ℕ) (place : ℕ) (table : List (List ℕ)) : Type 0 where
  pub long : length table ≡ length (keys h)
  pub wide : (k : ℕ) → k < length (keys h) → length (row_of table k) ≡ WIDE
  pub each : (k session : ℕ) → k < length (keys h) → session < WIDE
      → IsLeastOf (IsNextWriter h order (key_at h k) (from + session) place) (slice_index (row_of table k) session)
