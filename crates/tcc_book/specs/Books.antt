-- Books: which sessions were opened, and what was recorded, in the order of the lock.
use Rattle.std.specs.Prelude.{◌≡◌, ℕ, ◌<◌, ◌≤◌, Bool, true, false, List, [], ◌∷◌, ◌++◌, map, filter, length, Result, Ok, Err}
use Rattle.std.specs.List.{IsDistinct, list_all, list_any}
use Rattle.std.specs.FinMap.{from_entries}
use Rattle.tcc_txn.specs.Bytes.{same}
use Rattle.tcc_txn.specs.Snapshots.{Sessions}
use Rattle.tcc_txn.specs.Transactions.{Transaction}
use Rattle.tcc_txn.specs.declared.limits.TheConstants.{MAX_SESSIONS, MAX_TRANSACTIONS}
use Rattle.tcc_book.specs.declared.entry.Entry.{Entry}
use Rattle.tcc_book.specs.declared.fault.OpenFault.{OpenFault}
use Rattle.tcc_book.specs.declared.fault.OpenFault.TheVariants as unopened
use Rattle.tcc_book.specs.declared.fault.RecordFault.{RecordFault}
use Rattle.tcc_book.specs.declared.fault.RecordFault.TheVariants as refused

-- the sessions in the order in which they were opened, and all records in the order of the lock
pub record Book : Type 0 where
  pub names : List (List ℕ)
  pub journal : List Entry

-- nothing is opened
abbrev pub no_book : Book
no_book = record { names = []; journal = [] }

abbrev pub is_open : List ℕ → Book → Bool
is_open session book = list_any (same session) book.names

-- what the session recorded: the journal, filtered by its name
abbrev pub list_of : List ℕ → List Entry → List Transaction
list_of session journal = map (λ e. e.txn) (filter (λ e. same session e.session) journal)

-- how many transactions the session has
abbrev pub held_by : List ℕ → Book → ℕ
held_by session book = length (list_of session book.journal)

-- the map of all opened names to their lists
abbrev pub copy_of : Book → Sessions
copy_of book = from_entries (map (λ session. (session, list_of session book.journal)) book.names)

-- what holds for every book under a lock: no name is opened twice, each record is of an opened one, and there are not too many
-- of either
pub record IsBook (book : Book) : Type 0 where
  pub once : IsDistinct same book.names
  pub known : list_all (λ e. is_open e.session book) book.journal ≡ true
  pub few : length book.names ≤ MAX_SESSIONS
  pub short : length book.journal ≤ MAX_TRANSACTIONS

-- a session is opened, or the first reason why not, and then nothing changes
abbrev pub Opens : {U : Type 0} → Book → List ℕ → Result U OpenFault → Book → Type 0
Opens old session (Ok done) new =
    (is_open session old ≡ false) × (length old.names < MAX_SESSIONS)
    × (new ≡ record { names = old.names ++ session ∷ []; journal = old.journal })
Opens old session (Err (unopened.Taken held)) new = (is_open session old ≡ true) × (held ≡ held_by session old) × (new ≡ old)
Opens old session (Err (unopened.TooManySessions held)) new =
    (is_open session old ≡ false) × (length old.names ≡ MAX_SESSIONS) × (held ≡ MAX_SESSIONS) × (new ≡ old)
Opens old session (Err unopened.NoMemory) new = new ≡ old

-- the book has a list of the session, with this length
abbrev pub Matches : Book → List ℕ → ℕ → Type 0
Matches book session held = (is_open session book ≡ true) × (held_by session book ≡ held)

-- a transaction is recorded; or the first reason why not, and then nothing changes and the transaction is returned
abbrev pub Records : {U : Type 0} → Book → List ℕ → ℕ → Transaction → Result U (RecordFault × Transaction) → Book → Type 0
Records old session held txn (Ok done) new =
    (length old.journal < MAX_TRANSACTIONS) × Matches old session held
    × (new ≡ record { names = old.names; journal = old.journal ++ record { session = session; txn = txn } ∷ [] })
Records old session held txn (Err (refused.Full most, back)) new =
    (length old.journal ≡ MAX_TRANSACTIONS) × (most ≡ MAX_TRANSACTIONS) × (back ≡ txn) × (new ≡ old)
Records old session held txn (Err (refused.Torn torn, back)) new =
    (length old.journal < MAX_TRANSACTIONS) × (torn ≡ session) × (Matches old session held → ⊥) × (back ≡ txn) × (new ≡ old)
Records old session held txn (Err (refused.NoMemory, back)) new = (back ≡ txn) × (new ≡ old)
