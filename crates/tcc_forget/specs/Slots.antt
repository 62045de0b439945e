-- What is kept of a history's transactions, by slot. By its row one comparison says of any transaction whether it comes before.
use Rattle.std.specs.Prelude.{ℕ, ◌<◌, ◌≤◌, ◌≡◌, ◌⊎◌, Bool, true, false, List, [], ◌∷◌, ◌++◌, length, slice_index, slice_index_or, Contains, Option, None, Some}
use Rattle.tcc_reads.specs.History.{Entry, History, count, owner, place}
use Rattle.tcc_graph.specs.Levels.{causally}
use Rattle.tcc_graph.specs.Routes.{HasCycle}
use Rattle.tcc_graph.specs.Tables.{row_of}
use Rattle.tcc_watch.specs.Delivered.{IsDelivered, with_last}
use Rattle.tcc_forget.specs.Covers.{ComesOn, Cover, Covers, HasObserved, IsLastOf, LeadsTo}
use Rattle.tcc_forget.specs.declared.at.SessionPlace.{SessionPlace}
use Rattle.tcc_forget.specs.declared.slots.SlotReading.{SlotReading}
use Rattle.tcc_forget.specs.declared.slots.Slots.{Slots}

-- so it goes to a transaction, by one comparison
abbrev pub Reaches : History → List ℕ → ℕ → Type 0
Reaches h row u = place h u ≤ slice_index row (owner h u)

-- the place of one of the session's transactions, or 0
abbrev pub IsSomePlace : History → ℕ → ℕ → Type 0
IsSomePlace h session last = (last ≡ 0) ⊎ ((u : ℕ) × (0 < u) × (u < count h) × (owner h u ≡ session) × (place h u ≡ last))

-- in rows there are such places
abbrev pub ArePlaced : History → List (List ℕ) → Type 0
ArePlaced h rows = (i session : ℕ) → i < length rows → IsSomePlace h session (slice_index (row_of rows i) session)

-- the slots have these transactions, by number, each at its place
pub record AreSlots (h : History) (numbers : List ℕ) (ats : List SessionPlace) : Type 0 where
  pub long : length ats ≡ length numbers
  pub below : (i : ℕ) → i < length numbers → slice_index numbers i < count h
  pub session : (i : ℕ) (d : SessionPlace) → i < length numbers → (slice_index_or ats i d).session ≡ owner h (slice_index numbers i)
  pub place : (i : ℕ) (d : SessionPlace) → i < length numbers → (slice_index_or ats i d).place ≡ place h (slice_index numbers i)
  pub once : (i k : ℕ) → i < length numbers → k < length numbers → slice_index numbers i ≡ slice_index numbers k → i ≡ k

-- a live session has a transaction that may come: with the history before it, and what is kept of that
pub record Coming : Type 0 where
  pub history : History
  pub entry : Entry
  pub live : List ℕ
  pub cover : Cover
  pub numbers : List ℕ
  pub sessions : ℕ

-- the history with it
abbrev pub after : Coming → History
after on = with_last on.history on.entry

-- each row has the same width
abbrev pub AreWide : ℕ → List (List ℕ) → Type 0
AreWide sessions rows = (i : ℕ) → i < length rows → length (row_of rows i) ≡ sessions

-- the rows of the kept transactions are right: each goes to what is right by a relation, and to nothing else
pub record AreExact (h : History) (R : ℕ → ℕ → Type 0) (numbers : List ℕ) (rows : List (List ℕ)) : Type 0 where
  pub long : length rows ≡ length numbers
  pub sound : (u i : ℕ) → u < count h → i < length numbers → Reaches h (row_of rows i) u → R u (slice_index numbers i)
  pub placed : ArePlaced h rows
  pub whole : (u i : ℕ) → u < count h → i < length numbers → R u (slice_index numbers i) → Reaches h (row_of rows i) u

-- each listed writer has a slot
abbrev pub AreKept : Cover → List ℕ → Type 0
AreKept cover numbers = (x : List ℕ) (b : ℕ) → Contains (cover x).listed b → Contains numbers b

-- a read of the key from a, by the slots of the writers that are listed there. Where a isn't listed, it's the top; or `init`, where the key
-- has none
pub record IsReadingOf (cover : Cover) (numbers : List ℕ) (key : List ℕ) (a : ℕ) (read : SlotReading) : Type 0 where
  pub inside : (k : ℕ) → Contains read.listed.items k → (k < length numbers) × Contains (cover key).listed (slice_index numbers k)
  pub all : (b : ℕ) → Contains (cover key).listed b → (k : ℕ) × Contains read.listed.items k × (slice_index numbers k ≡ b)
  pub source : (k : ℕ) → read.source ≡ Some k → (k < length numbers) × (slice_index numbers k ≡ a) × Contains (cover key).listed a
  pub other : read.source ≡ None → (Contains (cover key).listed a → ⊥) × (((cover key).top ≡ Some a) ⊎ ((a ≡ 0) × ((cover key).top ≡ None)))

-- these are all of its reads
pub record AreReadings (on : Coming) (reads : List SlotReading) : Type 0 where
  pub each : (read : SlotReading) → Contains reads read → (key : List ℕ) × (a : ℕ) × Contains on.entry.reads (key, a) × IsReadingOf on.cover on.numbers key a read
  pub all : (key : List ℕ) (a : ℕ) → Contains on.entry.reads (key, a) → (read : SlotReading) × Contains reads read × IsReadingOf on.cover on.numbers key a read

-- what is kept of each transaction, by slot: where it is, what it has observed, and what comes before it
pub record SlotTables : Type 0 where
  pub sessions : ℕ
  pub ats : List SessionPlace
  pub observed : List (List ℕ)
  pub before : List (List ℕ)

abbrev pub tables_of : Slots → SlotTables
tables_of s = record { sessions = s.sessions; ats = s.ats.items; observed = s.observed.items; before = s.before.items }

-- the tables are those of a history, for the transactions of these numbers
pub record AreTables (h : History) (numbers : List ℕ) (t : SlotTables) : Type 0 where
  pub slots : AreSlots h numbers t.ats
  pub observed : AreExact h (HasObserved h) numbers t.observed
  pub before : AreExact h (LeadsTo h) numbers t.before
  pub clocks_wide : AreWide t.sessions t.observed
  pub rows_wide : AreWide t.sessions t.before

-- the slot of the last transaction of a session, if it has one
pub record IsLastSlot (h : History) (numbers : List ℕ) (session : ℕ) (last : Option ℕ) : Type 0 where
  pub some : (k : ℕ) → last ≡ Some k → (k < length numbers) × IsLastOf h session (slice_index numbers k)
  pub none : last ≡ None → (l : ℕ) → IsLastOf h session l → ⊥

-- a transaction may come, at this place, with these reads
pub record CanArrive (on : Coming) (t : SlotTables) (at : SessionPlace) (last : Option ℕ) (reads : List SlotReading) : Type 0 where
  pub tables : AreTables on.history on.numbers t
  pub delivered : IsDelivered on.history
  pub none : HasCycle (causally on.history) → ⊥
  pub covers : Covers on.history on.live on.cover
  pub comes : ComesOn on.history on.live on.entry
  pub sessions : on.sessions ≡ t.sessions
  pub session : at.session ≡ on.entry.owner
  pub place : at.place ≡ on.entry.place
  pub within : at.session < t.sessions
  pub kept : AreKept on.cover on.numbers
  pub latest : IsLastSlot on.history on.numbers on.entry.owner last
  pub readings : AreReadings on reads

-- the tables have it, and there is no cycle; or there is one
abbrev pub HasArrived : Coming → SlotTables → Bool → Type 0
HasArrived on t true = AreTables (after on) (on.numbers ++ count on.history ∷ []) t × (HasCycle (causally (after on)) → ⊥)
HasArrived on t false = HasCycle (causally (after on))
