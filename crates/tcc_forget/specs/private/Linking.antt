-- Rows by slots, while a transaction's links are made.
use Rattle.std.specs.Prelude.{ℕ, ◌<◌, ◌≤◌, ◌≡◌, ◌≢◌, ◌⊎◌, ◌↔◌, Bool, true, false, max, List, ◌++◌, length, slice_index, Contains, Option, filter_map}
use Rattle.std.specs.Option.{option_to_list}
use Rattle.tcc_reads.specs.History.{Entry, History, count}
use Rattle.tcc_graph.specs.Levels.{causally}
use Rattle.tcc_graph.specs.Routes.{HasCycle}
use Rattle.tcc_graph.specs.Tables.{row_of}
use Rattle.tcc_watch.specs.Delivered.{IsDelivered, with_last}
use Rattle.tcc_watch.specs.private.Rows.{IsRouted}
use Rattle.tcc_forget.specs.Cases.{IsMade, IsOutdated, IsRightBefore, Observes}
use Rattle.tcc_forget.specs.Covers.{ComesOn, Cover, Covers, LeadsTo}
use Rattle.tcc_forget.specs.Slots.{ArePlaced, AreReadings, AreSlots, AreWide, Coming, IsReadingOf, Reaches, after}
use Rattle.tcc_forget.specs.declared.at.SessionPlace.{SessionPlace}
use Rattle.tcc_forget.specs.declared.slots.SlotReading.{SlotReading}

-- a row goes to this place of its session
abbrev pub GoesTo : SessionPlace → List ℕ → Type 0
GoesTo at row = at.place ≤ slice_index row at.session

-- Rows of the kept transactions while a transaction comes: they go to what led there before it, and to nothing that doesn't lead there
-- with it. What goes on from one to another is in the rows, and no two come before one another
pub record AreBetween (h : History) (e : Entry) (numbers : List ℕ) (rows : List (List ℕ)) : Type 0 where
  pub long : length rows ≡ length numbers
  pub old : (u i : ℕ) → u < count h → i < length numbers → LeadsTo h u (slice_index numbers i) → Reaches h (row_of rows i) u
  pub sound : (u i : ℕ) → u < count h → i < length numbers → Reaches h (row_of rows i) u → LeadsTo (with_last h e) u (slice_index numbers i)
  pub joined : (u i k : ℕ) → u < count h → i < length numbers → k < length numbers → Reaches h (row_of rows i) u
      → Reaches h (row_of rows k) (slice_index numbers i) → Reaches h (row_of rows k) u
  pub placed : ArePlaced h rows
  pub apart : (i k : ℕ) → i < length numbers → k < length numbers → Reaches h (row_of rows k) (slice_index numbers i)
      → Reaches h (row_of rows i) (slice_index numbers k) → slice_index numbers i ≡ slice_index numbers k

-- a row that goes to `a` goes as far as another one now; others are as they were
abbrev pub IsRaisedRow : SessionPlace → List ℕ → List ℕ → List ℕ → Type 0
IsRaisedRow a row old new =
    (GoesTo a old × ((session : ℕ) → slice_index new session ≡ max (slice_index row session) (slice_index old session)))
    ⊎ ((GoesTo a old → ⊥) × (new ≡ old))

pub record AreRaised (a : SessionPlace) (row : List ℕ) (old : List (List ℕ)) (new : List (List ℕ)) : Type 0 where
  pub long : length new ≡ length old
  pub wide : (i : ℕ) → length (row_of new i) ≡ length (row_of old i)
  pub each : (i : ℕ) → i < length old → IsRaisedRow a row (row_of old i) (row_of new i)

-- what was in the rows still is
abbrev pub Keeps : History → List (List ℕ) → List (List ℕ) → Type 0
Keeps h old new = (u i : ℕ) → u < count h → i < length old → Reaches h (row_of old i) u → Reaches h (row_of new i) u

-- the rows are right for more; or there is a cycle
abbrev pub IsOutcome : Coming → List (List ℕ) → List (List ℕ) → Type 0 → Bool → Type 0
IsOutcome on old new More true = AreBetween on.history on.entry on.numbers new × Keeps on.history old new × More
IsOutcome on old new More false = HasCycle (causally (after on))

-- two of the kept transactions, and a route from the one to the other
pub record CanSettle (on : Coming) (rows : List (List ℕ)) (ats : List SessionPlace) (b : ℕ) (a : ℕ) : Type 0 where
  pub slots : AreSlots on.history on.numbers ats
  pub between : AreBetween on.history on.entry on.numbers rows
  pub wide : AreWide on.sessions rows
  pub from : b < length on.numbers
  pub to : a < length on.numbers
  pub link : IsRouted (causally (after on)) (slice_index on.numbers b) (slice_index on.numbers a)

-- each link that the transaction makes is in the rows
abbrev pub AreMade : History → Entry → Cover → List ℕ → List (List ℕ) → Type 0
AreMade h e cover numbers rows = (b a : ℕ) → b < length numbers → a < length numbers
    → IsMade h e cover (slice_index numbers b) (slice_index numbers a) → Reaches h (row_of rows a) (slice_index numbers b)

-- the slots of what is right before the transaction that comes
pub record AreParents (h : History) (e : Entry) (cover : Cover) (numbers : List ℕ) (parents : List ℕ) : Type 0 where
  pub inside : (p : ℕ) → Contains parents p → p < length numbers
  pub right : (p : ℕ) → Contains parents p → IsRightBefore h e cover (slice_index numbers p)
  pub all : (q : ℕ) → IsRightBefore h e cover q → (p : ℕ) × Contains parents p × (slice_index numbers p ≡ q)

-- the clock of the transaction that comes goes to what it has observed, and to nothing else
abbrev pub IsClockOf : History → Entry → List ℕ → Type 0
IsClockOf h e clock = (u : ℕ) → u < count h → Reaches h clock u ↔ Observes h e u

-- writers of a key that are listed, by their slots, and one of them that is read
pub record CanLink (on : Coming) (rows : List (List ℕ)) (ats : List SessionPlace) (clock : List ℕ) (listed : List ℕ) (a : ℕ) : Type 0 where
  pub slots : AreSlots on.history on.numbers ats
  pub between : AreBetween on.history on.entry on.numbers rows
  pub wide : AreWide on.sessions rows
  pub clock_of : IsClockOf on.history on.entry clock
  pub inside : (b : ℕ) → Contains listed b → b < length on.numbers
  pub to : a < length on.numbers
  pub links : (b : ℕ) → Contains listed b → b ≢ a → Observes on.history on.entry (slice_index on.numbers b)
      → IsRouted (causally (after on)) (slice_index on.numbers b) (slice_index on.numbers a)

pub record CanLinkOne (on : Coming) (rows : List (List ℕ)) (ats : List SessionPlace) (clock : List ℕ) (b : ℕ) (a : ℕ) : Type 0 where
  pub slots : AreSlots on.history on.numbers ats
  pub between : AreBetween on.history on.entry on.numbers rows
  pub wide : AreWide on.sessions rows
  pub clock_of : IsClockOf on.history on.entry clock
  pub from : b < length on.numbers
  pub to : a < length on.numbers
  pub link : b ≢ a → Observes on.history on.entry (slice_index on.numbers b) → IsRouted (causally (after on)) (slice_index on.numbers b) (slice_index on.numbers a)

-- b comes before a, if it is another one and was observed
abbrev pub OrdersOne : Coming → List (List ℕ) → ℕ → ℕ → Type 0
OrdersOne on rows b a = b ≢ a → Observes on.history on.entry (slice_index on.numbers b) → Reaches on.history (row_of rows a) (slice_index on.numbers b)

-- those of them that it has observed come before it
abbrev pub OrdersListed : Coming → List (List ℕ) → List ℕ → ℕ → Type 0
OrdersListed on rows listed a =
    (b : ℕ) → Contains listed b → b ≢ a → Observes on.history on.entry (slice_index on.numbers b)
    → Reaches on.history (row_of rows a) (slice_index on.numbers b)

-- writers of a key that are listed, to which a clock is compared
pub record CanCompare (on : Coming) (ats : List SessionPlace) (clock : List ℕ) (listed : List ℕ) : Type 0 where
  pub slots : AreSlots on.history on.numbers ats
  pub clock_of : IsClockOf on.history on.entry clock
  pub inside : (b : ℕ) → Contains listed b → b < length on.numbers

-- one of them was observed, or none was
abbrev pub IsPassedBy : Coming → List ℕ → Bool → Type 0
IsPassedBy on listed true = (b : ℕ) × Contains listed b × Observes on.history on.entry (slice_index on.numbers b)
IsPassedBy on listed false = (b : ℕ) → Contains listed b → Observes on.history on.entry (slice_index on.numbers b) → ⊥

-- a read of a key from a by the transaction that comes
pub record Reads : Type 0 where
  pub on : Coming
  pub key : List ℕ
  pub a : ℕ

-- the rows while it makes links, and its clock
pub record AreLinking (on : Coming) (rows : List (List ℕ)) (ats : List SessionPlace) (clock : List ℕ) : Type 0 where
  pub delivered : IsDelivered on.history
  pub covers : Covers on.history on.live on.cover
  pub comes : ComesOn on.history on.live on.entry
  pub slots : AreSlots on.history on.numbers ats
  pub between : AreBetween on.history on.entry on.numbers rows
  pub wide : AreWide on.sessions rows
  pub clock_of : IsClockOf on.history on.entry clock

pub record CanLinkAt (reads : Reads) (rows : List (List ℕ)) (ats : List SessionPlace) (clock : List ℕ) (read : SlotReading) : Type 0 where
  pub linking : AreLinking reads.on rows ats clock
  pub there : Contains reads.on.entry.reads (reads.key, reads.a)
  pub reading : IsReadingOf reads.on.cover reads.on.numbers reads.key reads.a read

pub record CanLinkRead (on : Coming) (rows : List (List ℕ)) (ats : List SessionPlace) (clock : List ℕ) (read : SlotReading) : Type 0 where
  pub linking : AreLinking on rows ats clock
  pub some : (key : List ℕ) × (a : ℕ) × Contains on.entry.reads (key, a) × IsReadingOf on.cover on.numbers key a read

-- what the transaction has observed of the listed writers of the key comes before the one that is read, if that is listed
abbrev pub OrdersRead : Reads → List (List ℕ) → Type 0
OrdersRead reads rows =
    (b k : ℕ) → b < length reads.on.numbers → k < length reads.on.numbers → slice_index reads.on.numbers k ≡ reads.a
    → Contains (reads.on.cover reads.key).listed reads.a → Contains (reads.on.cover reads.key).listed (slice_index reads.on.numbers b)
    → slice_index reads.on.numbers b ≢ reads.a → Observes reads.on.history reads.on.entry (slice_index reads.on.numbers b)
    → Reaches reads.on.history (row_of rows k) (slice_index reads.on.numbers b)

-- the read doesn't contradict, and its links are in the rows
abbrev pub IsReadDone : Reads → List (List ℕ) → Type 0
IsReadDone reads rows =
    (IsOutdated reads.on.history reads.on.entry (reads.on.cover reads.key) reads.a → ⊥) × OrdersRead reads rows

-- so it is whatever read this is
abbrev pub IsDoneBy : Coming → List (List ℕ) → SlotReading → Type 0
IsDoneBy on rows read =
    (key : List ℕ) (a : ℕ) → Contains on.entry.reads (key, a) → IsReadingOf on.cover on.numbers key a read
    → IsReadDone (record { on = on; key = key; a = a }) rows

pub record CanLinkReads (on : Coming) (rows : List (List ℕ)) (ats : List SessionPlace) (clock : List ℕ) (reads : List SlotReading) : Type 0 where
  pub linking : AreLinking on rows ats clock
  pub readings : AreReadings on reads

abbrev pub AreReadsDone : Coming → List (List ℕ) → Type 0
AreReadsDone on rows = (key : List ℕ) (a : ℕ) → Contains on.entry.reads (key, a) → IsReadDone (record { on = on; key = key; a = a }) rows

-- the slots of what is right before a transaction
abbrev pub parents_in : Option ℕ → List SlotReading → List ℕ
parents_in last reads = option_to_list last ++ filter_map (λ read. read.source) reads
