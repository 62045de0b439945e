-- The ledger of the transactions that were delivered: where each is in its session, what number it has, and where its reads come from.
use Rattle.std.specs.Prelude.{ℕ, ◌+◌, ◌<◌, ◌≡◌, ◌≢◌, ◌⊎◌, ◌↔◌, true, List, [], length, slice_index_or, Contains, take, None, Some}
use Rattle.tcc_txn.specs.Transactions.{Transaction}
use Rattle.tcc_txn.specs.declared.op.Op.{Op}
use Rattle.tcc_txn.specs.declared.op.Op.TheVariants.{Get, Put}
use Rattle.tcc_reads.specs.History.{History, count, entry_at, initial, owner, place}
use Rattle.tcc_reads.specs.Sources.{visible_write}
use Rattle.tcc_graph.specs.Keys.{has_name}

-- the finished transactions of each session, by its name
abbrev pub Lists : Type 0
Lists = List ℕ → List Transaction

-- a session's transaction of this place, from 1
abbrev pub IsPlaced : Lists → List ℕ → ℕ → Transaction → Type 0
IsPlaced lists name place txn = (k : ℕ) × (k < length (lists name)) × (place ≡ k + 1) × (slice_index_or (lists name) k txn ≡ txn)

-- the name of the session of a number
abbrev pub session_of : List (List ℕ) → History → ℕ → List ℕ
session_of names h n = slice_index_or names (owner h n) []

-- the number is that of this committed transaction
abbrev pub IsNumbered : Lists → List (List ℕ) → History → ℕ → Transaction → Type 0
IsNumbered lists names h n txn = IsPlaced lists (session_of names h n) (place h n) txn × (txn.committed ≡ true)

-- the operation at this index reads the value at the key
abbrev pub IsRead : List Op → ℕ → List ℕ → ℕ → Type 0
IsRead ops i x v = (i < length ops) × (slice_index_or ops i (Get x v) ≡ Get x v)

-- some operation reads the value at the key, and none before it writes there
abbrev pub ReadsExternally : List Op → List ℕ → ℕ → Type 0
ReadsExternally ops x v = (i : ℕ) × IsRead ops i x v × (visible_write x (take i ops) ≡ None)

-- a read after a write of its key in the same transaction has the value of the last such write
abbrev pub KeepsOwn : List Op → Type 0
KeepsOwn ops = (i : ℕ) (x : List ℕ) (v w : ℕ) → IsRead ops i x v → visible_write x (take i ops) ≡ Some w → w ≡ v

-- no value is written twice
abbrev pub WritesOnce : List Op → Type 0
WritesOnce ops =
    (i k : ℕ) (x : List ℕ) (v : ℕ) → i < k → k < length ops → slice_index_or ops i (Put x v) ≡ Put x v → slice_index_or ops k (Put x v) ≡ Put x v → ⊥

-- a value that is read at a key comes from this number: 0 from `init`, any other from a transaction that writes it visibly
abbrev pub IsFrom : Lists → List (List ℕ) → History → List ℕ → ℕ → ℕ → Type 0
IsFrom lists names h x v a =
    (a < count h)
    × (((v ≡ 0) × (a ≡ 0))
    ⊎ ((v ≢ 0) × (0 < a) × ((txn : Transaction) × IsNumbered lists names h a txn × (visible_write x txn.ops ≡ Some v))))

-- the entry of a number has the keys and the sources of its transaction, each of which came before it
pub record IsEntered (lists : Lists) (names : List (List ℕ)) (h : History) (n : ℕ) (txn : Transaction) : Type 0 where
  pub numbered : IsNumbered lists names h n txn
  pub own : KeepsOwn txn.ops
  pub writes : (x : List ℕ) → (has_name (entry_at h n).writes x ≡ true) ↔ ((v : ℕ) × Contains txn.ops (Put x v))
  pub read : (x : List ℕ) (a : ℕ) → Contains (entry_at h n).reads (x, a) → (v : ℕ) × ReadsExternally txn.ops x v × IsFrom lists names h x v a
  pub reads : (x : List ℕ) (v : ℕ) → ReadsExternally txn.ops x v → (a : ℕ) × (a < n) × IsFrom lists names h x v a × Contains (entry_at h n).reads (x, a)

-- the history has the committed transactions of the lists, each once and with its sources, and no value is written twice
pub record IsLedger (lists : Lists) (names : List (List ℕ)) (h : History) : Type 0 where
  pub some : 0 < count h
  pub first : entry_at h 0 ≡ initial
  pub apart : (i k : ℕ) → i < length names → k < length names → slice_index_or names i [] ≡ slice_index_or names k [] → i ≡ k
  pub owned : (n : ℕ) → 0 < n → n < count h → owner h n < length names
  pub once : (a b : ℕ) → 0 < a → a < count h → 0 < b → b < count h → owner h a ≡ owner h b → place h a ≡ place h b → a ≡ b
  pub each : (n : ℕ) → 0 < n → n < count h → (txn : Transaction) × IsEntered lists names h n txn
  pub all : (name : List ℕ) (p : ℕ) (txn : Transaction) → IsPlaced lists name p txn → txn.committed ≡ true
      → (n : ℕ) × (0 < n) × (n < count h) × (session_of names h n ≡ name) × (place h n ≡ p)
  pub written : (a b : List ℕ) (p q : ℕ) (t u : Transaction) (x : List ℕ) (v : ℕ) → IsPlaced lists a p t → IsPlaced lists b q u
      → Contains t.ops (Put x v) → Contains u.ops (Put x v) → (a ≡ b) × (p ≡ q)
  pub written_once : (name : List ℕ) (p : ℕ) (txn : Transaction) → IsPlaced lists name p txn → WritesOnce txn.ops
