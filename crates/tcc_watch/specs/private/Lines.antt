-- The sessions, each with the transactions that wait to be delivered.
use Rattle.std.specs.Prelude.{ℕ, ◌+◌, ◌<◌, ◌≡◌, ◌⊎◌, List, [], ◌∷◌, ◌++◌, length, map, slice_index_or, slice_set}
use Rattle.tcc_txn.specs.Nested.{list_of}
use Rattle.tcc_txn.specs.Snapshots.{Sessions}
use Rattle.tcc_txn.specs.Transactions.{Transaction}
use Rattle.tcc_watch.specs.declared.lines.Line.{Line}
use Rattle.tcc_watch.specs.Ledger.{Lists}

abbrev pub names_of : List Line → List (List ℕ)
names_of lines = map (λ line. line.name) lines

-- no session has the name
abbrev pub HasNoLine : List Line → List ℕ → Type 0
HasNoLine lines name = (k : ℕ) (d : Line) → k < length lines → (slice_index_or lines k d).name ≡ name → ⊥

-- the session at the index has it
abbrev pub IsLineOf : List Line → List ℕ → ℕ → Type 0
IsLineOf lines name k = (k < length lines) × ((d : Line) → (slice_index_or lines k d).name ≡ name)

-- one transaction more waits in it
pub record WaitsLonger (old : Line) (new : Line) (txn : Transaction) : Type 0 where
  pub name : new.name ≡ old.name
  pub delivered : new.delivered ≡ old.delivered
  pub waiting : new.waiting.items ≡ old.waiting.items ++ txn ∷ []

-- a line of this transaction alone
pub record IsFirstLine (line : Line) (name : List ℕ) (txn : Transaction) : Type 0 where
  pub name_is : line.name ≡ name
  pub none : line.delivered ≡ 0
  pub alone : line.waiting.items ≡ txn ∷ []

-- a new session, the last, is that of the transaction alone
abbrev pub AddsLine : List Line → List Line → List ℕ → Transaction → ℕ → Type 0
AddsLine old new name txn k = (k ≡ length old) × ((line : Line) × IsFirstLine line name txn × (new ≡ old ++ line ∷ []))

-- the session at an index has one transaction more that waits
abbrev pub WaitsAt : List Line → List Line → Transaction → ℕ → Type 0
WaitsAt old new txn k = (line : Line) × ((d : Line) → WaitsLonger (slice_index_or old k d) line txn) × (new ≡ slice_set old k line)

-- the transaction waits in the session at an index, which has the name, or is a new one where none had
abbrev pub WaitsMore : List Line → List Line → List ℕ → Transaction → ℕ → Type 0
WaitsMore old new name txn k = (IsLineOf old name k × WaitsAt old new txn k) ⊎ (HasNoLine old name × AddsLine old new name txn k)

-- the first transaction that waited has this place now, the next of its session
pub record GoesOn (old : Line) (new : Line) (place : ℕ) (txn : Transaction) : Type 0 where
  pub name : new.name ≡ old.name
  pub place_is : place ≡ old.delivered + 1
  pub delivered : new.delivered ≡ place
  pub waited : old.waiting.items ≡ txn ∷ new.waiting.items

-- what a session has finished was delivered, or waits
pub record IsTold (s : Sessions) (lists : Lists) (line : Line) : Type 0 where
  pub all : list_of s line.name ≡ lists line.name ++ line.waiting.items
  pub delivered : line.delivered ≡ length (lists line.name)

-- so does each, and no other session has finished anything
pub record AreLines (s : Sessions) (lists : Lists) (lines : List Line) : Type 0 where
  pub each : (k : ℕ) (d : Line) → k < length lines → IsTold s lists (slice_index_or lines k d)
  pub others : (name : List ℕ) → HasNoLine lines name → (list_of s name ≡ []) × (lists name ≡ [])
