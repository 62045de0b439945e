-- What is meant by readings: `Is` says which numbers are meant by a key and a reader of it.
use Rattle.std.specs.Prelude.{ℕ, ◌<◌, List, slice_index}
use Rattle.tcc_reads.specs.History.{History}
use Rattle.tcc_graph.specs.Keys.{key_at}
use Rattle.tcc_graph.specs.Relations.{IsReadsPair}

-- it is meant by one of the readings of a
pub record IsByReading (h : History) (a : ℕ) (Is : List ℕ → ℕ → ℕ → Type 0) (n : ℕ) : Type 0 where
  pub reader : ℕ
  pub key : List ℕ
  pub pair : IsReadsPair h a reader key
  pub behind : Is key reader n

-- it is meant by one of the first of these readings
pub record IsByFirst (h : History) (readers : List ℕ) (key_indices : List ℕ) (Is : List ℕ → ℕ → ℕ → Type 0) (end : ℕ) (n : ℕ) : Type 0 where
  pub index : ℕ
  pub first : index < end
  pub behind : Is (key_at h (slice_index key_indices index)) (slice_index readers index) n
