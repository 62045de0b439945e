-- Transactions and operations with their positions in a snapshot.
use Rattle.std.specs.Prelude.{ℕ, ◌+◌, Bool, List, [], ◌∷◌, ◌++◌, length, filter, flat_map}
use Rattle.std.specs.FinMap.{entries}
use Rattle.tcc_txn.specs.Snapshots.{Sessions}
use Rattle.tcc_txn.specs.Transactions.{Transaction}
use Rattle.tcc_txn.specs.declared.op.Op.{Op}

-- a transaction with its position
pub record Stand : Type 0 where
  -- the index and the name of its session; the names are in byte order
  pub session : ℕ
  pub name : List ℕ
  -- its place in the session, from 1, aborted ones counted
  pub place : ℕ
  pub txn : Transaction

abbrev pub is_committed : Stand → Bool
is_committed stand = stand.txn.committed

-- the transactions of a session, from this place on
abbrev pub stands_in : ℕ → List ℕ → ℕ → List Transaction → List Stand
stands_in session name place [] = []
stands_in session name place (txn ∷ later) =
    record { session = session; name = name; place = place; txn = txn } ∷ stands_in session name (place + 1) later

-- the transactions of some sessions, the first of which has this index
abbrev pub stands_from : ℕ → List (List ℕ × List Transaction) → List Stand
stands_from session [] = []
stands_from session (named ∷ later) = stands_in session named.0 1 named.1 ++ stands_from (session + 1) later

-- all transactions of a snapshot, by session name in byte order and by place
abbrev pub stands : Sessions → List Stand
stands s = stands_from 0 (entries s)

-- the committed ones: the first of them has the number 1
abbrev pub committed : List Stand → List Stand
committed all = filter is_committed all

-- an operation, with those before and after it in its transaction
pub record Site : Type 0 where
  pub stand : Stand
  pub before : List Op
  pub op : Op
  pub after : List Op

-- its position in the transaction, from 1
abbrev pub at : Site → ℕ
at site = length site.before + 1

abbrev pub sites_from : Stand → List Op → List Op → List Site
sites_from stand before [] = []
sites_from stand before (op ∷ after) =
    record { stand = stand; before = before; op = op; after = after } ∷ sites_from stand (before ++ op ∷ []) after

-- the operations of a transaction
abbrev pub sites_of : Stand → List Site
sites_of stand = sites_from stand [] stand.txn.ops

-- the operations of all transactions, in their order
abbrev pub sites : List Stand → List Site
sites all = flat_map sites_of all
