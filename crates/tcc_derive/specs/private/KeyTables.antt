-- Which transactions read each key from which, and which keys each transaction writes.
use Rattle.std.specs.Prelude.{ℕ, ◌<◌, ◌≡◌, ◌↔◌, List, length, Contains}
use Rattle.tcc_reads.specs.History.{History, count}
use Rattle.tcc_graph.specs.Relations.{IsReadsPair}
use Rattle.tcc_graph.specs.Keys.{IsWriter, keys}
use Rattle.tcc_graph.specs.KeyIndices.{name_of}
use Rattle.tcc_derive.specs.private.Buckets.{bucket}
use Rattle.tcc_derive.specs.declared.read.Read.{Read}

-- these are the reads of the key at k
abbrev pub AreReadsAt : History → ℕ → List Read → Type 0
AreReadsAt h k reads = (r : Read) → Contains reads r ↔ IsReadsPair h r.source r.reader (name_of (keys h) k)

-- the bucket of each key has exactly its reads
pub record IsReadsOf (h : History) (reads : List (List Read)) : Type 0 where
  pub long : length reads ≡ length (keys h)
  pub each : (k : ℕ) → k < length (keys h) → AreReadsAt h k (bucket reads k)

-- the bucket of each transaction has the indices, below n, of the keys that it writes
pub record HasWrites (h : History) (n : ℕ) (written : List (List ℕ)) : Type 0 where
  pub long : length written ≡ count h
  pub wrote : (b : ℕ) (k : ℕ) → b < count h → Contains (bucket written b) k → (k < length (keys h)) × IsWriter h b (name_of (keys h) k)
  pub each : (b : ℕ) (k : ℕ) → b < count h → k < n → IsWriter h b (name_of (keys h) k) → Contains (bucket written b) k

-- the bucket of each transaction has exactly the indices of the keys that it writes
abbrev pub IsWritesOf : History → List (List ℕ) → Type 0
IsWritesOf h written = HasWrites h (length (keys h)) written
