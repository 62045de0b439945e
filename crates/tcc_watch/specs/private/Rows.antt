-- Rows of places: how far each session has to come before a transaction.
use Rattle.std.specs.Prelude.{ℕ, ◌<◌, ◌≤◌, ◌≡◌, ◌≢◌, ◌⊎◌, max, List, length, slice_index, slice_index_or, Contains}
use Rattle.tcc_reads.specs.History.{History, count, owner, place}
use Rattle.tcc_graph.specs.Relations.{IsSessionPair, IsCausalPair}
use Rattle.tcc_graph.specs.Levels.{Judged}
use Rattle.tcc_graph.specs.Links.{IsLink, link_from, link_to}
use Rattle.tcc_graph.specs.Routes.{IsRoute}
use Rattle.tcc_graph.specs.Tables.{row_of}
use Rattle.tcc_graph.specs.declared.link.Link.{Link}
use Rattle.tcc_watch.specs.declared.at.At.{At}
use Rattle.tcc_watch.specs.Delivered.{IsDelivered}

-- the last place of the session in the row of a transaction, or 0 where it has none
abbrev pub last_in : List (List ℕ) → ℕ → ℕ → ℕ
last_in rows v session = slice_index (row_of rows v) session

-- by the rows u is v or comes before it: one comparison
abbrev pub IsUpTo : History → List (List ℕ) → ℕ → ℕ → Type 0
IsUpTo h rows u v = place h u ≤ last_in rows v (owner h u)

-- the place of one of the session's transactions, or 0
abbrev pub IsPlaceOf : History → ℕ → ℕ → Type 0
IsPlaceOf h session last = (last ≡ 0) ⊎ ((u : ℕ) × (0 < u) × (u < count h) × (owner h u ≡ session) × (place h u ≡ last))

-- a row for each transaction, and in it places of the sessions' transactions
pub record AreHeld (h : History) (rows : List (List ℕ)) : Type 0 where
  pub long : length rows ≡ count h
  pub places : (v : ℕ) (session : ℕ) → v < count h → IsPlaceOf h session (last_in rows v session)

-- the rows are an order of the transactions, each with itself
pub record AreOrdered (h : History) (rows : List (List ℕ)) : Type 0 where
  pub held : AreHeld h rows
  pub itself : (v : ℕ) → v < count h → IsUpTo h rows v v
  pub joined : (u v w : ℕ) → u < count h → v < count h → w < count h → IsUpTo h rows u v → IsUpTo h rows v w → IsUpTo h rows u w
  pub apart : (u v : ℕ) → u < count h → v < count h → IsUpTo h rows u v → IsUpTo h rows v u → u ≡ v

-- v doesn't come after a, or came after b before, and keeps its row; or its row goes as far as that of b now
abbrev pub IsRaisedAt : History → List (List ℕ) → List (List ℕ) → ℕ → ℕ → ℕ → Type 0
IsRaisedAt h old new b a v =
    ((row_of new v ≡ row_of old v) × ((IsUpTo h old a v → ⊥) ⊎ IsUpTo h old b v))
    ⊎ (IsUpTo h old a v × ((session : ℕ) → last_in new v session ≡ max (last_in old b session) (last_in old v session)))

-- b comes before a now, and before all that come after a
pub record IsRaised (h : History) (old : List (List ℕ)) (new : List (List ℕ)) (b : ℕ) (a : ℕ) : Type 0 where
  pub long : length new ≡ length old
  pub each : (v : ℕ) → v < count h → IsRaisedAt h old new b a v

-- a route leads from a to b
abbrev pub IsRouted : Judged → ℕ → ℕ → Type 0
IsRouted j a b = (links : List Link) × IsRoute j a b links

-- the rows have the ends of each link in order
abbrev pub OrdersLinks : Judged → List (List ℕ) → Type 0
OrdersLinks j rows = (l : Link) → IsLink j l → IsUpTo j.history rows (link_from l) (link_to l)

-- what comes before another by the rows leads to it
abbrev pub AreSound : History → (ℕ → ℕ → Type 0) → List (List ℕ) → Type 0
AreSound h Leads rows = (u v : ℕ) → u < count h → v < count h → IsUpTo h rows u v → (u ≡ v) ⊎ Leads u v

-- the rows have each causal pair in order
abbrev pub OrdersPairs : History → List (List ℕ) → Type 0
OrdersPairs h rows = (a b : ℕ) → IsCausalPair h a b → IsUpTo h rows a b

-- pairs into a transaction, some at least, and each other pair into it comes from before one of these in its session
pub record AreParents (h : History) (t : ℕ) (parents : List ℕ) : Type 0 where
  pub one : (p : ℕ) × Contains parents p
  pub pairs : (p : ℕ) → Contains parents p → IsCausalPair h p t
  pub all : (a : ℕ) → IsCausalPair h a t → (p : ℕ) × Contains parents p × ((a ≡ p) ⊎ IsSessionPair h a p)

-- the greatest of what the rows of some transactions have of a session, or 0
pub record IsLastOver (rows : List (List ℕ)) (parents : List ℕ) (session : ℕ) (last : ℕ) : Type 0 where
  pub attained : (last ≡ 0) ⊎ ((p : ℕ) × Contains parents p × (last ≡ last_in rows p session))
  pub greatest : (p : ℕ) → Contains parents p → last_in rows p session ≤ last

-- a row that goes as far as the rows of some transactions, and in a session of its own to a place
pub record IsRowOver (rows : List (List ℕ)) (parents : List ℕ) (own : ℕ) (place : ℕ) (row : List ℕ) : Type 0 where
  pub itself : slice_index row own ≡ place
  pub others : (session : ℕ) → session ≢ own → IsLastOver rows parents session (slice_index row session)

-- the session and the place of each transaction
pub record AreStands (h : History) (stands : List At) : Type 0 where
  pub long : length stands ≡ count h
  pub session : (n : ℕ) (d : At) → n < count h → (slice_index_or stands n d).session ≡ owner h n
  pub place : (n : ℕ) (d : At) → n < count h → (slice_index_or stands n d).place ≡ place h n

-- the numbers of each session's transactions, ascending
pub record AreMembers (h : History) (members : List (List ℕ)) : Type 0 where
  pub each : (session i : ℕ) → i < length (row_of members session)
      → (0 < slice_index (row_of members session) i) × (slice_index (row_of members session) i < count h)
      × (owner h (slice_index (row_of members session) i) ≡ session)
  pub rising : (session i k : ℕ) → i < k → k < length (row_of members session)
      → slice_index (row_of members session) i < slice_index (row_of members session) k
  pub all : (n : ℕ) → 0 < n → n < count h → Contains (row_of members (owner h n)) n

-- a row goes as far as this place of its session
abbrev pub GoesTo : At → List ℕ → Type 0
GoesTo at row = at.place ≤ slice_index row at.session

-- a row that doesn't go to `a`, or goes to `b`, is as it was; or it goes to `a`, and as far as the row of b now
abbrev pub IsRaisedRow : At → At → List ℕ → List ℕ → List ℕ → Type 0
IsRaisedRow a b row old new =
    ((new ≡ old) × ((GoesTo a old → ⊥) ⊎ GoesTo b old))
    ⊎ (GoesTo a old × ((session : ℕ) → slice_index new session ≡ max (slice_index row session) (slice_index old session)))

-- these ascend, have rows, and the row of a later one goes at least as far
pub record AreRising (rows : List (List ℕ)) (numbers : List ℕ) : Type 0 where
  pub below : (i : ℕ) → i < length numbers → slice_index numbers i < length rows
  pub ascending : (i k : ℕ) → i < k → k < length numbers → slice_index numbers i < slice_index numbers k
  pub further : (i k session : ℕ) → i ≤ k → k < length numbers
      → last_in rows (slice_index numbers i) session ≤ last_in rows (slice_index numbers k) session

-- from the index on the rows of these go to the place, and none before it does
pub record IsFirstWith (rows : List (List ℕ)) (numbers : List ℕ) (at : At) (first : ℕ) : Type 0 where
  pub within : first ≤ length numbers
  pub before : (i : ℕ) → i < first → GoesTo at (row_of rows (slice_index numbers i)) → ⊥
  pub from : (i : ℕ) → first ≤ i → i < length numbers → GoesTo at (row_of rows (slice_index numbers i))

-- the rows of these are raised, and no others
pub record AreRaised (a : At) (b : At) (row : List ℕ) (old : List (List ℕ)) (new : List (List ℕ)) (numbers : List ℕ) : Type 0 where
  pub long : length new ≡ length old
  pub each : (i : ℕ) → i < length numbers
      → IsRaisedRow a b row (row_of old (slice_index numbers i)) (row_of new (slice_index numbers i))
  pub others : (v : ℕ) → (Contains numbers v → ⊥) → row_of new v ≡ row_of old v

-- the rows of these from an index to before another are raised to a row, and no others
pub record IsRaisedBetween (row : List ℕ) (old : List (List ℕ)) (new : List (List ℕ)) (numbers : List ℕ) (first : ℕ) (end : ℕ) : Type 0 where
  pub long : length new ≡ length old
  pub raised : (i session : ℕ) → first ≤ i → i < end → i < length numbers
      → last_in new (slice_index numbers i) session ≡ max (slice_index row session) (last_in old (slice_index numbers i) session)
  pub others : (v : ℕ) → ((i : ℕ) → first ≤ i → i < end → i < length numbers → slice_index numbers i ≡ v → ⊥) → row_of new v ≡ row_of old v

-- the rows of the transactions of the sessions below `end` are raised, and those of others are as they were
pub record AreRaisedBelow (h : History) (old : List (List ℕ)) (new : List (List ℕ)) (b : ℕ) (a : ℕ) (end : ℕ) : Type 0 where
  pub long : length new ≡ length old
  pub done : (v : ℕ) → 0 < v → v < count h → owner h v < end → IsRaisedAt h old new b a v
  pub left : (v : ℕ) → (v ≡ 0) ⊎ (end ≤ owner h v) → row_of new v ≡ row_of old v

-- rows that order the transactions of a history, with their sessions and places, and two of them of which the second isn't `init`
pub record CanRaise (h : History) (rows : List (List ℕ)) (stands : List At) (members : List (List ℕ)) (b : ℕ) (a : ℕ) : Type 0 where
  pub delivered : IsDelivered h
  pub ordered : AreOrdered h rows
  pub placed : AreStands h stands
  pub listed : AreMembers h members
  pub from : b < count h
  pub to : a < count h
  pub some : 0 < a
