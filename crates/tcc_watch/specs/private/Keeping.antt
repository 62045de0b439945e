-- What is kept of the transactions that were delivered.
use Rattle.std.specs.Prelude.{ℕ, ◌+◌, ◌<◌, ◌≡◌, true, List, [], ◌∷◌, length, map, slice_index_or}
use Rattle.tcc_txn.specs.Transactions.{Transaction}
use Rattle.tcc_reads.specs.History.{Entry, History, initial}
use Rattle.tcc_watch.specs.Ledger.{IsLedger, Lists}
use Rattle.tcc_watch.specs.declared.at.At.{At}
use Rattle.tcc_watch.specs.declared.kept.Entered.{Entered}
use Rattle.tcc_watch.specs.declared.kept.Kept.{Kept}
use Rattle.tcc_watch.specs.private.Deciding.{IsDecided}
use Rattle.tcc_watch.specs.private.LedgerSteps.{IsLonger}
use Rattle.tcc_watch.specs.private.Values.{AreSources, AreUnwritten, AreValues, ValueMap}

abbrev pub entry_of : Entered → Entry
entry_of e = record { owner = e.at.session; place = e.at.place; writes = e.writes.items; reads = e.reads.items }

-- the history of what was delivered; the names of its sessions are kept elsewhere
abbrev pub history_of : List Entered → History
history_of entries = record { sessions = []; entries = initial ∷ map entry_of entries }

-- no session has delivered anything
abbrev pub nothing : Lists
nothing = λ name. []

-- this was delivered: its ledger and its values are kept, and it is decided whether it has a cycle
pub record IsKept (lists : Lists) (names : List (List ℕ)) (kept : Kept) : Type 0 where
  pub ledger : IsLedger lists names (history_of kept.entries.items)
  pub values : AreValues lists names (history_of kept.entries.items) kept.values
  pub decided : IsDecided (history_of kept.entries.items) kept.decided

-- nothing that it writes was written, and where it was committed these are its sources
pub record IsReady (values : ValueMap) (txn : Transaction) (reads : List (List ℕ × ℕ)) : Type 0 where
  pub unwritten : AreUnwritten values txn.ops
  pub sources : txn.committed ≡ true → AreSources values txn.ops reads

-- what was delivered before and after the next transaction of a session
pub record Growth : Type 0 where
  pub old : Lists
  pub new : Lists
  pub names : List (List ℕ)
  pub name : List ℕ

-- the transaction is that one, this is its session and place, and it may be delivered
pub record ComesNext (g : Growth) (kept : Kept) (at : At) (txn : Transaction) (reads : List (List ℕ × ℕ)) : Type 0 where
  pub held : IsKept g.old g.names kept
  pub longer : IsLonger g.old g.new g.name txn
  pub owned : at.session < length g.names
  pub named : slice_index_or g.names at.session [] ≡ g.name
  pub placed : at.place ≡ length (g.old g.name) + 1
  pub ready : IsReady kept.values txn reads
