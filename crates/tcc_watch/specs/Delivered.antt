-- Histories that grow at their end, each transaction after those that it needs.
use Rattle.std.specs.Prelude.{ℕ, ◌<◌, ◌≡◌, ◌≢◌, ◌⊎◌, ◌↔◌, Bool, true, false, List, [], ◌∷◌, ◌++◌, All, Contains}
use Rattle.tcc_txn.specs.Snapshots.{Sessions}
use Rattle.tcc_reads.specs.History.{Entry, History, count, entry_at, owner, place, initial}
use Rattle.tcc_reads.specs.OneSource.{Gives, IsNumber}
use Rattle.tcc_reads.specs.Sites.{Stand}
use Rattle.tcc_reads.specs.Sources.{external_reads, history, writes_of}
use Rattle.tcc_graph.specs.Relations.{IsCausalPair, IsReadsPair, IsSessionPair}
use Rattle.tcc_graph.specs.Keys.{has_name}
use Rattle.tcc_graph.specs.declared.link.Link.{Link}
use Rattle.tcc_graph.specs.declared.link.Link.TheVariants as link

-- the history with one transaction more, of the next number
abbrev pub with_last : History → Entry → History
with_last h e = record { sessions = h.sessions; entries = h.entries ++ e ∷ [] }

-- the numbers go along the causal pairs: `init` is the first, and each other comes after those before it in its session and
-- after those that it reads from
pub record IsDelivered (h : History) : Type 0 where
  pub some : 0 < count h
  pub first : entry_at h 0 ≡ initial
  pub placed : (n : ℕ) → 0 < n → n < count h → 0 < place h n
  pub sessions : (m : ℕ) (n : ℕ) → 0 < m → m < n → n < count h → owner h m ≡ owner h n → place h m < place h n
  pub sources : (n : ℕ) → n < count h → All (λ read. read.1 < n) (entry_at h n).reads

-- the transaction may come next: all that it reads from is there, and all that is there of its session has lower places
pub record MayCome (h : History) (e : Entry) : Type 0 where
  pub placed : 0 < e.place
  pub session : (n : ℕ) → 0 < n → n < count h → owner h n ≡ e.owner → place h n < e.place
  pub sources : All (λ read. read.1 < count h) e.reads

-- a pair into a transaction, or a derived link of which it is the reader
abbrev pub IsBy : ℕ → Link → Type 0
IsBy t (link.Session a b) = b ≡ t
IsBy t (link.Reads a b x) = b ≡ t
IsBy t (link.Derived b a x c walk) = c ≡ t

-- by a map of numbers each transaction of a history is one of another: with its place in its session, its writes and its sources
pub record CarriesOver (h : History) (k : History) (f : ℕ → ℕ) : Type 0 where
  pub first : f 0 ≡ 0
  pub some : (n : ℕ) → 0 < n → n < count h → 0 < f n
  pub below : (n : ℕ) → n < count h → f n < count k
  pub once : (a : ℕ) (b : ℕ) → a < count h → b < count h → f a ≡ f b → a ≡ b
  pub session : (a : ℕ) (b : ℕ) → 0 < a → IsSessionPair h a b → IsSessionPair k (f a) (f b)
  pub written : (n : ℕ) (x : List ℕ) → 0 < n → n < count h → has_name (entry_at h n).writes x ≡ true → has_name (entry_at k (f n)).writes x ≡ true
  pub read : (a : ℕ) (b : ℕ) (x : List ℕ) → IsReadsPair h a b x → IsReadsPair k (f a) (f b) x

-- the two are one history but for the numbers
abbrev pub AreAlike : History → History → Type 0
AreAlike h k = ((f : ℕ → ℕ) × CarriesOver h k f) × ((f : ℕ → ℕ) × CarriesOver k h f)

-- a value that is read at a key comes from the transaction delivered as number a: 0 from `init`, any other from the one that gives it
abbrev pub ComesFrom : Sessions → History → (ℕ → ℕ) → List ℕ → ℕ → ℕ → Type 0
ComesFrom s h f x v a = (a < count h) × (((v ≡ 0) × (a ≡ 0)) ⊎ ((v ≢ 0) × (0 < a) × Gives s (f a) x v))

-- what was delivered as number n is this committed transaction of the snapshot, by its place, its keys and its external reads
pub record IsAs (s : Sessions) (h : History) (f : ℕ → ℕ) (n : ℕ) (t : Stand) : Type 0 where
  pub number : IsNumber s (f n) t
  pub place_is : place h n ≡ t.place
  pub writes : (x : List ℕ) → has_name (entry_at h n).writes x ≡ has_name (writes_of t) x
  pub read : (x : List ℕ) (a : ℕ) → Contains (entry_at h n).reads (x, a) → (v : ℕ) × Contains (external_reads t) (x, v) × ComesFrom s h f x v a
  pub reads : (x : List ℕ) (v : ℕ) (a : ℕ) → Contains (external_reads t) (x, v) → ComesFrom s h f x v a → Contains (entry_at h n).reads (x, a)

-- the history has the committed transactions of the snapshot, all and each once, in whatever order they were delivered; f has the
-- number in the snapshot's history of each
pub record IsDeliveryOf (s : Sessions) (h : History) (f : ℕ → ℕ) : Type 0 where
  pub first : f 0 ≡ 0
  pub some : 0 < count h
  pub init : entry_at h 0 ≡ initial
  pub each : (n : ℕ) → 0 < n → n < count h → (t : Stand) × IsAs s h f n t
  pub once : (a : ℕ) (b : ℕ) → a < count h → b < count h → f a ≡ f b → a ≡ b
  pub all : (m : ℕ) → m < count (history s) → (n : ℕ) × (n < count h) × (f n ≡ m)
  pub owners : (a : ℕ) (b : ℕ) → 0 < a → a < count h → 0 < b → b < count h
      → (owner h a ≡ owner h b) ↔ (owner (history s) (f a) ≡ owner (history s) (f b))

-- each transaction that hasn't come has a pair from another that hasn't
abbrev pub AllWait : History → (ℕ → Bool) → Type 0
AllWait h has_come =
    (y : ℕ) → y < count h → has_come y ≡ false → (b : ℕ) × (b < count h) × (has_come b ≡ false) × IsCausalPair h b y
