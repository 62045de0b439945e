-- The writers of each key so far.
use Rattle.std.specs.Prelude.{ℕ, ◌+◌, ◌<◌, ◌≤◌, ◌≡◌, ◌≢◌, ◌⊎◌, List, [], ◌∷◌, ◌++◌, length, slice_index_or, slice_set, Contains}
use Rattle.tcc_reads.specs.History.{History, count, owner, place}
use Rattle.tcc_graph.specs.Keys.{IsWriter}
use Rattle.tcc_watch.specs.declared.at.At.{At}
use Rattle.tcc_watch.specs.declared.linking.SessionWriters.{SessionWriters}
use Rattle.tcc_watch.specs.Delivered.{IsDelivered}
use Rattle.tcc_watch.specs.private.Links.{AreWriters}
use Rattle.tcc_watch.specs.private.Numbered.{AreApart, number_in}

-- the keys, and at the number of each its writers
pub record WriterMap : Type 0 where
  pub keys : List (List ℕ)
  pub writers : List (List SessionWriters)

-- the lists of a key; none where nobody but `init` has written it
abbrev pub lists_in : WriterMap → List ℕ → List SessionWriters
lists_in writers x = slice_index_or writers.writers (number_in x writers.keys) []

-- each key has one number, and other numbers have no writers
abbrev pub AreWritersOf : List (List ℕ) → List (List SessionWriters) → Type 0
AreWritersOf keys writers = AreApart keys × ((k : ℕ) → length keys ≤ k → slice_index_or writers k [] ≡ [])

-- the number is the last of its session's list, and so is its place; the list is a new one where there was none
abbrev pub HasNumber : List SessionWriters → List SessionWriters → At → ℕ → Type 0
HasNumber old new at number =
    ((i : ℕ) × (w : SessionWriters) × (i < length old) × (slice_index_or old i w ≡ w) × (w.session ≡ at.session)
    × (new ≡ slice_set old i (record { session = w.session; numbers = w.numbers ++ number ∷ []; last = at.place })))
    ⊎ (new ≡ old ++ record { session = at.session; numbers = number ∷ []; last = at.place } ∷ [])

-- the lists at an index have one number more, and others are as they were
pub record HasNumberAt (old : List (List SessionWriters)) (new : List (List SessionWriters)) (index : ℕ) (at : At) (number : ℕ) : Type 0 where
  pub here : HasNumber (slice_index_or old index []) (slice_index_or new index []) at number
  pub others : (k : ℕ) → k ≢ index → slice_index_or new k [] ≡ slice_index_or old k []

-- the key has one writer more, and others have theirs
pub record NotesWrite (old : WriterMap) (new : WriterMap) (at : At) (number : ℕ) (key : List ℕ) : Type 0 where
  pub here : HasNumber (lists_in old key) (lists_in new key) at number
  pub others : (x : List ℕ) → x ≢ key → lists_in new x ≡ lists_in old x

-- the lists of each key have all its writers below a number
abbrev pub AreKeyWriters : History → ℕ → WriterMap → Type 0
AreKeyWriters h end writers = (x : List ℕ) → AreWriters h end x (lists_in writers x)

-- the last transaction has this session and place, and these are the keys that it writes, each once
pub record CanNote (h : History) (writers : WriterMap) (at : At) (number : ℕ) (keys : List (List ℕ)) : Type 0 where
  pub delivered : IsDelivered h
  pub right : AreKeyWriters h number writers
  pub some : 0 < number
  pub below : number < count h
  pub owned : owner h number ≡ at.session
  pub placed : place h number ≡ at.place
  pub written : (x : List ℕ) → Contains keys x → IsWriter h number x
  pub all : (x : List ℕ) → IsWriter h number x → Contains keys x
  pub once : (i : ℕ) (k : ℕ) → i < k → k < length keys → slice_index_or keys i [] ≢ slice_index_or keys k []

-- the first of these keys are noted, and the others aren't yet
pub record AreNoted (h : History) (writers : WriterMap) (number : ℕ) (keys : List (List ℕ)) : Type 0 where
  pub noted : (x : List ℕ) → Contains keys x → AreWriters h (number + 1) x (lists_in writers x)
  pub left : (x : List ℕ) → (Contains keys x → ⊥) → AreWriters h number x (lists_in writers x)
