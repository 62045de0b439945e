-- The transactions of all sessions as they come.
use Rattle.std.specs.Prelude.{ℕ, ◌<◌, ◌≡◌, List, [], ◌∷◌, length, slice_index_or}
use Rattle.tcc_txn.specs.Snapshots.{Sessions}
use Rattle.tcc_txn.specs.Transactions.{Transaction}
use Rattle.tcc_watch.specs.Ledger.{Lists}
use Rattle.tcc_watch.specs.declared.arrivals.Arrivals.{Arrivals}
use Rattle.tcc_watch.specs.declared.lines.Line.{Line}
use Rattle.tcc_watch.specs.private.Keeping.{IsKept, IsReady}
use Rattle.tcc_watch.specs.private.Lines.{AreLines, names_of}

-- what the snapshot has was delivered, or waits
abbrev pub AreArrivals : Sessions → Arrivals → Type 0
AreArrivals s a = (lists : Lists) × AreLines s lists a.lines.items × IsKept lists (names_of a.lines.items) a.kept

-- all that some snapshot has was delivered, or waits
abbrev pub IsOpen : Arrivals → Type 0
IsOpen a = (s : Sessions) × AreArrivals s a

-- nothing has come, and nothing was lost
abbrev pub GoesOnAs : Arrivals → Arrivals → Type 0
GoesOnAs old new = (s : Sessions) → AreArrivals s old → AreArrivals s new

-- no transaction waits
abbrev pub NoneWaits : List Line → Type 0
NoneWaits lines = (k : ℕ) (d : Line) → k < length lines → (slice_index_or lines k d).waiting.items ≡ []

-- the first transaction that waits in the session at an index may be delivered
pub record IsFirstReady (a : Arrivals) (index : ℕ) (reads : List (List ℕ × ℕ)) : Type 0 where
  pub inside : index < length a.lines.items
  pub first : (d : Line) (txn : Transaction) (rest : List Transaction) → (slice_index_or a.lines.items index d).waiting.items ≡ txn ∷ rest
      → IsReady a.kept.values txn reads

-- it is this one
abbrev pub IsFirstWaiting : List Line → ℕ → Transaction → Type 0
IsFirstWaiting lines index txn =
    (index < length lines)
    × ((d : Line) (first : Transaction) (rest : List Transaction) → (slice_index_or lines index d).waiting.items ≡ first ∷ rest → first ≡ txn)
