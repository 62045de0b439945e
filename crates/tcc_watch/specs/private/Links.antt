-- The derived links that a transaction brings as the reader of a key.
use Rattle.std.specs.Prelude.{ℕ, ◌<◌, ◌≤◌, ◌≡◌, ◌≢◌, Bool, true, false, List, length, slice_index, slice_index_or, Contains}
use Rattle.tcc_reads.specs.History.{History, count, owner, place}
use Rattle.tcc_graph.specs.Relations.{IsReadsPair}
use Rattle.tcc_graph.specs.Keys.{IsWriter}
use Rattle.tcc_graph.specs.Walks.{IsReached}
use Rattle.tcc_graph.specs.Levels.{causally}
use Rattle.tcc_graph.specs.Links.{IsReason}
use Rattle.tcc_graph.specs.Routes.{HasCycle}
use Rattle.tcc_graph.specs.declared.step.Step.{Step}
use Rattle.tcc_watch.specs.declared.at.At.{At}
use Rattle.tcc_watch.specs.declared.linking.SessionWriters.{SessionWriters}
use Rattle.tcc_watch.specs.Delivered.{IsDelivered}
use Rattle.tcc_watch.specs.private.Rows.{AreOrdered, AreStands, AreMembers, AreSound, IsRouted, IsUpTo, OrdersPairs}

-- rows that order the transactions, each pair among them, and say no more than what routes say
pub record IsClosure (h : History) (rows : List (List ℕ)) : Type 0 where
  pub ordered : AreOrdered h rows
  pub pairs : OrdersPairs h rows
  pub sound : AreSound h (IsRouted (causally h)) rows

-- what came before another still does
abbrev pub Keeps : History → List (List ℕ) → List (List ℕ) → Type 0
Keeps h old new = (u v : ℕ) → u < count h → v < count h → IsUpTo h old u v → IsUpTo h new u v

-- the rows order what they did and more; or there is a cycle
abbrev pub IsOutcome : History → List (List ℕ) → List (List ℕ) → Type 0 → Bool → Type 0
IsOutcome h old new More true = IsClosure h new × Keeps h old new × More
IsOutcome h old new More false = HasCycle (causally h)

abbrev pub IsSettled : History → List (List ℕ) → List (List ℕ) → ℕ → ℕ → Bool → Type 0
IsSettled h old new b a = IsOutcome h old new (IsUpTo h new b a)

-- a route leads from b to a, another transaction
pub record CanSettle (h : History) (rows : List (List ℕ)) (stands : List At) (members : List (List ℕ)) (b : ℕ) (a : ℕ) : Type 0 where
  pub delivered : IsDelivered h
  pub closure : IsClosure h rows
  pub placed : AreStands h stands
  pub listed : AreMembers h members
  pub from : b < count h
  pub to : a < count h
  pub apart : b ≢ a
  pub route : IsRouted (causally h) b a

-- a read of a key, by the number of its reader
pub record Reading : Type 0 where
  pub history : History
  pub reader : ℕ
  pub key : List ℕ

-- the row goes to what reaches a transaction, and to nothing else but that
pub record IsClock (h : History) (t : ℕ) (row : List ℕ) : Type 0 where
  pub reached : (u : ℕ) → u < count h → u ≢ t → place h u ≤ slice_index row (owner h u) → IsReached h u t
  pub known : (u : ℕ) → IsReached h u t → place h u ≤ slice_index row (owner h u)

-- some writers of a key, of one session and below a number, ascending
pub record AreWritersIn (h : History) (end : ℕ) (x : List ℕ) (session : ℕ) (numbers : List ℕ) : Type 0 where
  pub some : (i : ℕ) → i < length numbers → 0 < slice_index numbers i
  pub below : (i : ℕ) → i < length numbers → slice_index numbers i < end
  pub owned : (i : ℕ) → i < length numbers → owner h (slice_index numbers i) ≡ session
  pub written : (i : ℕ) → i < length numbers → IsWriter h (slice_index numbers i) x
  pub rising : (i k : ℕ) → i < k → k < length numbers → slice_index numbers i < slice_index numbers k

-- none of these is further in its session than a place
abbrev pub GoNoFurther : History → List ℕ → ℕ → Type 0
GoNoFurther h numbers last = (i : ℕ) → i < length numbers → place h (slice_index numbers i) ≤ last

-- all writers of a key below a number, but `init`, session by session
pub record AreWriters (h : History) (end : ℕ) (x : List ℕ) (lists : List SessionWriters) : Type 0 where
  pub each : (i : ℕ) (d : SessionWriters) → i < length lists
      → AreWritersIn h end x (slice_index_or lists i d).session (slice_index_or lists i d).numbers
  pub last : (i : ℕ) (d : SessionWriters) → i < length lists → GoNoFurther h (slice_index_or lists i d).numbers (slice_index_or lists i d).last
  pub all : (b : ℕ) → 0 < b → b < end → IsWriter h b x
      → (i : ℕ) × (i < length lists) × ((d : SessionWriters) → Contains (slice_index_or lists i d).numbers b)

-- what a read needs whose links are made
pub record IsReading (r : Reading) (rows : List (List ℕ)) (stands : List At) (members : List (List ℕ)) (clock : List ℕ) (a : ℕ) : Type 0 where
  pub delivered : IsDelivered r.history
  pub closure : IsClosure r.history rows
  pub placed : AreStands r.history stands
  pub listed : AreMembers r.history members
  pub clock_of : IsClock r.history r.reader clock
  pub read : IsReadsPair r.history a r.reader r.key

pub record CanLinkSession (r : Reading) (rows : List (List ℕ)) (stands : List At) (members : List (List ℕ)) (writers : SessionWriters) (clock : List ℕ)
    (a : ℕ) : Type 0 where
  pub reading : IsReading r rows stands members clock a
  pub right : AreWritersIn r.history r.reader r.key writers.session writers.numbers
  pub last : GoNoFurther r.history writers.numbers writers.last

pub record CanLink (r : Reading) (rows : List (List ℕ)) (stands : List At) (members : List (List ℕ)) (lists : List SessionWriters) (clock : List ℕ)
    (a : ℕ) : Type 0 where
  pub reading : IsReading r rows stands members clock a
  pub right : AreWriters r.history r.reader r.key lists

-- those of these that reach the reader come before a
abbrev pub OrdersWriters : Reading → List (List ℕ) → List ℕ → ℕ → Type 0
OrdersWriters r rows numbers a =
    (b : ℕ) → Contains numbers b → b ≢ a → IsReached r.history b r.reader → IsUpTo r.history rows b a

abbrev pub IsLinkedIn : Reading → List (List ℕ) → List (List ℕ) → SessionWriters → ℕ → Bool → Type 0
IsLinkedIn r old new writers a = IsOutcome r.history old new (OrdersWriters r new writers.numbers a)

-- each derived link by the reading is in order
abbrev pub OrdersReasons : Reading → List (List ℕ) → ℕ → Type 0
OrdersReasons r rows a = (b : ℕ) (walk : List Step) → IsReason (causally r.history) b a r.key r.reader walk → IsUpTo r.history rows b a

abbrev pub IsLinked : Reading → List (List ℕ) → List (List ℕ) → ℕ → Bool → Type 0
IsLinked r old new a = IsOutcome r.history old new (OrdersReasons r new a)

-- the place of a number
abbrev pub place_at : List At → ℕ → ℕ
place_at stands n = (slice_index_or stands n (record { session = 0; place = 0 })).place

-- each of these has a place, and a later one no lower place
pub record RisePlaces (stands : List At) (numbers : List ℕ) : Type 0 where
  pub below : (i : ℕ) → i < length numbers → slice_index numbers i < length stands
  pub rising : (i k : ℕ) → i ≤ k → k < length numbers → place_at stands (slice_index numbers i) ≤ place_at stands (slice_index numbers k)

-- the first `count` of these are no further than a place, and the others are
pub record IsCountWithin (stands : List At) (numbers : List ℕ) (place : ℕ) (count : ℕ) : Type 0 where
  pub within : count ≤ length numbers
  pub upto : (i : ℕ) → i < count → place_at stands (slice_index numbers i) ≤ place
  pub past : (i : ℕ) → count ≤ i → i < length numbers → place < place_at stands (slice_index numbers i)

abbrev pub NoneWithin : List At → List ℕ → ℕ → Type 0
NoneWithin stands numbers place = (i : ℕ) → i < length numbers → place < place_at stands (slice_index numbers i)

-- it is the last of these that is no further than a place
pub record IsLastWithin (stands : List At) (numbers : List ℕ) (place : ℕ) (last : ℕ) : Type 0 where
  pub index : ℕ
  pub inside : index < length numbers
  pub here : slice_index numbers index ≡ last
  pub upto : place_at stands last ≤ place
  pub past : (i : ℕ) → index < i → i < length numbers → place < place_at stands (slice_index numbers i)
