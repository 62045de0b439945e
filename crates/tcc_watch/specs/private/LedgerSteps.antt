-- One transaction more in a ledger.
use Rattle.std.specs.Prelude.{ℕ, ◌+◌, ◌≡◌, ◌<◌, ◌↔◌, true, List, [], ◌∷◌, ◌++◌, length, slice_index_or, Contains}
use Rattle.tcc_txn.specs.Transactions.{Transaction}
use Rattle.tcc_txn.specs.declared.op.Op.{Op}
use Rattle.tcc_txn.specs.declared.op.Op.TheVariants.{Put}
use Rattle.tcc_reads.specs.History.{Entry, History}
use Rattle.tcc_graph.specs.Keys.{has_name}
use Rattle.tcc_watch.specs.Ledger.{IsFrom, IsPlaced, KeepsOwn, Lists, ReadsExternally, WritesOnce}

-- the session has one transaction more
pub record IsLonger (old : Lists) (new : Lists) (name : List ℕ) (txn : Transaction) : Type 0 where
  pub here : new name ≡ old name ++ txn ∷ []
  pub others : (other : List ℕ) → (other ≡ name → ⊥) → new other ≡ old other

-- no value that the operations write is written in the lists, and none twice
pub record AreNew (lists : Lists) (ops : List Op) : Type 0 where
  pub once : WritesOnce ops
  pub fresh : (name : List ℕ) (p : ℕ) (txn : Transaction) (x : List ℕ) (v : ℕ) → IsPlaced lists name p txn → Contains txn.ops (Put x v)
      → Contains ops (Put x v) → ⊥

-- the entry is that of the next transaction of a session, with its keys and its sources
pub record IsNext (lists : Lists) (names : List (List ℕ)) (h : History) (e : Entry) (name : List ℕ) (txn : Transaction) : Type 0 where
  pub ended : txn.committed ≡ true
  pub owned : e.owner < length names
  pub named : slice_index_or names e.owner [] ≡ name
  pub placed : e.place ≡ length (lists name) + 1
  pub own : KeepsOwn txn.ops
  pub writes : (x : List ℕ) → (has_name e.writes x ≡ true) ↔ ((v : ℕ) × Contains txn.ops (Put x v))
  pub read : (x : List ℕ) (a : ℕ) → Contains e.reads (x, a) → (v : ℕ) × ReadsExternally txn.ops x v × IsFrom lists names h x v a
  pub reads : (x : List ℕ) (v : ℕ) → ReadsExternally txn.ops x v → (a : ℕ) × IsFrom lists names h x v a × Contains e.reads (x, a)
