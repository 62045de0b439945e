-- Slices: small snapshots of some of the transactions of another one, with some of their operations.
use Rattle.std.specs.Prelude.{ℕ, ◌≡◌, ◌<◌, List, [], Some, Contains}
use Rattle.tcc_txn.specs.Snapshots.{Sessions}
use Rattle.tcc_reads.specs.Faults.{read_faults}
use Rattle.tcc_reads.specs.OneSource.{IsNumber}
use Rattle.tcc_reads.specs.Sites.{Stand}
use Rattle.tcc_reads.specs.Sources.{external_reads, visible_write, history}
use Rattle.tcc_graph.specs.Relations.{IsSessionPair}

-- a transaction of the slice, and the one of the whole that it is a part of. They are of one session. What the part reads from
-- others the whole one reads from others, and what it writes visibly the whole one writes visibly
pub record IsPart (part : Stand) (whole : Stand) : Type 0 where
  pub name : whole.name ≡ part.name
  pub reads : (read : List ℕ × ℕ) → Contains (external_reads part) read → Contains (external_reads whole) read
  pub writes : (x : List ℕ) (v : ℕ) → visible_write x part.txn.ops ≡ Some v → visible_write x whole.txn.ops ≡ Some v

-- of two snapshots whose reads are resolved the first is a slice of the second, by a map of numbers. Each committed transaction
-- is a part of the one that the map gives, and in a session the map only rises. Aborted ones are left out or not
pub record IsSlice (f : ℕ → ℕ) (small : Sessions) (large : Sessions) : Type 0 where
  pub before : read_faults small ≡ []
  pub later : read_faults large ≡ []
  pub initial : f 0 ≡ 0
  pub parts : (n : ℕ) (t : Stand) → IsNumber small n t → (u : Stand) × IsNumber large (f n) u × IsPart t u
  pub rises : (m : ℕ) (n : ℕ) → 0 < m → IsSessionPair (history small) m n → f m < f n
