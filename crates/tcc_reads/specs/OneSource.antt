-- Each external read of a resolved snapshot has one source, which is another transaction.
use Rattle.std.specs.Prelude.{ℕ, ◌+◌, ◌<◌, ◌≡◌, ◌≢◌, true, List, length, slice_index_or, Contains}
use Rattle.tcc_txn.specs.Snapshots.{Sessions}
use Rattle.tcc_reads.specs.Sites.{Stand, stands, committed}
use Rattle.tcc_reads.specs.Sources.{shows, external_reads, source}

-- the committed transaction of this number, from 1 on
abbrev pub IsNumber : Sessions → ℕ → Stand → Type 0
IsNumber s n stand =
    (i : ℕ) × (i < length (committed (stands s))) × (n ≡ i + 1) × (slice_index_or (committed (stands s)) i stand ≡ stand)

-- the transaction of this number reads the value at the key, and has no own write of the key before
abbrev pub ReadsFromOthers : Sessions → ℕ → List ℕ → ℕ → Type 0
ReadsFromOthers s n x v = (reader : Stand) × IsNumber s n reader × Contains (external_reads reader) (x, v)

-- the transaction of this number is committed, and its last write at the key has the value
abbrev pub Gives : Sessions → ℕ → List ℕ → ℕ → Type 0
Gives s m x v = (giver : Stand) × IsNumber s m giver × (shows x v giver ≡ true)

-- 0 is read from the initial transaction; any other value from the one transaction that gives it; no transaction reads from
-- itself
pub record HasOneSource (s : Sessions) (n : ℕ) (x : List ℕ) (v : ℕ) : Type 0 where
  pub initial : v ≡ 0 → source (stands s) x v ≡ 0
  pub given : v ≢ 0 → Gives s (source (stands s) x v) x v
  pub only : v ≢ 0 → (m : ℕ) → Gives s m x v → m ≡ source (stands s) x v
  pub other : source (stands s) x v ≢ n
