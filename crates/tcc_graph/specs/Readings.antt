-- Who reads from a transaction, and who reads a key.
use Rattle.std.specs.Prelude.{ℕ, ◌<◌, ◌≡◌, ◌↔◌, List, length, zip, All, Contains}
use Rattle.std.specs.Ordering.{nat_cmp}
use Rattle.tcc_reads.specs.History.{History}
use Rattle.tcc_reads.specs.Sources.{name_cmp}
use Rattle.tcc_graph.specs.Relations.{IsReadsPair, AreInOrder}
use Rattle.tcc_graph.specs.Keys.{keys, key_at}

-- the readers of a, ascending, and beside each a key that it reads there: for one reader in byte order, each once
pub record AreReadings (h : History) (a : ℕ) (readers : List ℕ) (names : List (List ℕ)) : Type 0 where
  pub long : length readers ≡ length names
  pub each : (c : ℕ) (x : List ℕ) → Contains (zip readers names) (c, x) ↔ IsReadsPair h a c x
  pub order : AreInOrder name_cmp readers names

-- the readers of a, ascending, and beside each the index of a key that it reads there: for one reader ascending, each once
pub record AreReadingsByIndex (h : History) (a : ℕ) (readers : List ℕ) (key_indices : List ℕ) : Type 0 where
  pub long : length readers ≡ length key_indices
  pub within : All (λ key_index. key_index < length (keys h)) key_indices
  pub each : (c : ℕ) (key_index : ℕ) → Contains (zip readers key_indices) (c, key_index)
      ↔ ((key_index < length (keys h)) × IsReadsPair h a c (key_at h key_index))
  pub order : AreInOrder nat_cmp readers key_indices

-- the sources of a key, ascending, and beside each a reader of the key from it: for one source ascending, each once
pub record AreReadingsOfKey (h : History) (key_index : ℕ) (sources : List ℕ) (readers : List ℕ) : Type 0 where
  pub long : length sources ≡ length readers
  pub each : (a : ℕ) (c : ℕ) → Contains (zip sources readers) (a, c) ↔ IsReadsPair h a c (key_at h key_index)
  pub order : AreInOrder nat_cmp sources readers
