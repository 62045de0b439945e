-- What is known of a history as far as it has come, and one transaction more.
use Rattle.std.specs.Prelude.{ℕ, ◌<◌, ◌≡◌, ◌≢◌, Bool, true, false, List, [], ◌∷◌, length, slice_index_or}
use Rattle.tcc_reads.specs.History.{History, count, initial}
use Rattle.tcc_graph.specs.Relations.{IsReadsPair}
use Rattle.tcc_graph.specs.Levels.{causally}
use Rattle.tcc_graph.specs.Routes.{HasCycle}
use Rattle.tcc_watch.specs.declared.at.At.{At}
use Rattle.tcc_watch.specs.declared.delivered.Delivered.{Delivered}
use Rattle.tcc_watch.specs.Delivered.{IsDelivered, MayCome}
use Rattle.tcc_watch.specs.private.Rows.{AreStands, AreMembers}
use Rattle.tcc_watch.specs.private.Links.{IsClosure, IsClock, IsOutcome, IsReading, OrdersReasons, Reading, AreWriters}
use Rattle.tcc_watch.specs.private.Tables.{AreTables, Arriving, after}
use Rattle.tcc_watch.specs.private.Writers.{AreKeyWriters, WriterMap, lists_in}

-- the history with `init` alone
abbrev pub before_all : List (List ℕ) → History
before_all sessions = record { sessions = sessions; entries = initial ∷ [] }

-- all of a history is known: what has to come before what, and who writes which key
pub record IsState (h : History) (d : Delivered) : Type 0 where
  pub tables : AreTables h d.tables
  pub writers : AreKeyWriters h (count h) d.writers

-- a key that is read from a, with its writers so far
pub record CanLinkKey (r : Reading) (rows : List (List ℕ)) (stands : List At) (members : List (List ℕ)) (writers : WriterMap) (clock : List ℕ)
    (key : List ℕ) (a : ℕ) : Type 0 where
  pub reading : IsReading r rows stands members clock a
  pub is_key : key ≡ r.key
  pub right : AreWriters r.history r.reader r.key (lists_in writers key)

-- the reading of a key by the transaction that comes
abbrev pub reading_of : Arriving → List ℕ → Reading
reading_of arriving key = record { history = after arriving; reader = count arriving.history; key = key }

-- these are its reads
pub record CanLinkReads (arriving : Arriving) (rows : List (List ℕ)) (stands : List At) (members : List (List ℕ)) (writers : WriterMap) (clock : List ℕ)
    (reads : List (List ℕ × ℕ)) : Type 0 where
  pub delivered : IsDelivered (after arriving)
  pub closure : IsClosure (after arriving) rows
  pub placed : AreStands (after arriving) stands
  pub listed : AreMembers (after arriving) members
  pub clock_of : IsClock (after arriving) (count arriving.history) clock
  pub right : AreKeyWriters (after arriving) (count arriving.history) writers
  pub pairs : (i : ℕ) (d : List ℕ × ℕ) → i < length reads
      → IsReadsPair (after arriving) (slice_index_or reads i d).1 (count arriving.history) (slice_index_or reads i d).0

-- all that the first of its reads bring is in order
abbrev pub OrdersReads : Arriving → List (List ℕ) → List (List ℕ × ℕ) → ℕ → Type 0
OrdersReads arriving rows reads end =
    (i : ℕ) (d : List ℕ × ℕ) → i < end → i < length reads
    → OrdersReasons (reading_of arriving (slice_index_or reads i d).0) rows (slice_index_or reads i d).1

abbrev pub AreReadsLinked : Arriving → List (List ℕ) → List (List ℕ) → List (List ℕ × ℕ) → Bool → Type 0
AreReadsLinked arriving old new reads = IsOutcome (after arriving) old new (OrdersReads arriving new reads (length reads))

-- a transaction that may come, with its session and place, its writes, each once, and its reads
pub record IsComing (arriving : Arriving) (at : At) (writes : List (List ℕ)) (reads : List (List ℕ × ℕ)) : Type 0 where
  pub may : MayCome arriving.history arriving.entry
  pub session : at.session ≡ arriving.entry.owner
  pub place : at.place ≡ arriving.entry.place
  pub writes_are : writes ≡ arriving.entry.writes
  pub reads_are : reads ≡ arriving.entry.reads
  pub once : (i : ℕ) (k : ℕ) → i < k → k < length writes → slice_index_or writes i [] ≢ slice_index_or writes k []

-- and all is known of the history before
pub record CanDeliver (arriving : Arriving) (d : Delivered) (at : At) (writes : List (List ℕ)) (reads : List (List ℕ × ℕ)) : Type 0 where
  pub state : IsState arriving.history d
  pub coming : IsComing arriving at writes reads

-- all is known of the history with it, which has no cycle; or it has one
abbrev pub HasDelivered : Arriving → Delivered → Bool → Type 0
HasDelivered arriving d true = IsState (after arriving) d × (HasCycle (causally (after arriving)) → ⊥)
HasDelivered arriving d false = HasCycle (causally (after arriving))
