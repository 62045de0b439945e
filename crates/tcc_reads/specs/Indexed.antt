-- Transactions of a resolved history by the indices of their keys.
use Rattle.std.specs.Prelude.{ℕ, ◌<◌, List, [], map, slice_index_or, All}
use Rattle.tcc_txn.specs.KeyNumbers.{name_at}
use Rattle.tcc_reads.specs.History.{Entry}

-- a transaction, with what it writes and reads by the indices of the keys
pub record Indexed : Type 0 where
  pub owner : ℕ
  pub place : ℕ
  pub writes : List ℕ
  pub reads : List (ℕ × ℕ)

-- `init`
abbrev pub unindexed : Indexed
unindexed = record { owner = 0; place = 0; writes = []; reads = [] }

-- the transaction of a number, `init` past the last one
abbrev pub indexed_of : List Indexed → ℕ → Indexed
indexed_of indexed n = slice_index_or indexed n unindexed

-- reads by the names of the keys
abbrev pub named : List (List ℕ) → List (ℕ × ℕ) → List (List ℕ × ℕ)
named names reads = map (λ read. (name_at names read.0, read.1)) reads

-- the transaction by the names of the keys
abbrev pub entry_of : List (List ℕ) → Indexed → Entry
entry_of names p = record { owner = p.owner; place = p.place; writes = map (name_at names) p.writes; reads = named names p.reads }

-- the transactions by the names of the keys
abbrev pub entries_of : List (List ℕ) → List Indexed → List Entry
entries_of names indexed = map (entry_of names) indexed

-- the indices are below the count of keys
pub record IsWithin (count : ℕ) (p : Indexed) : Type 0 where
  pub writes : All (λ k. k < count) p.writes
  pub reads : All (λ read. read.0 < count) p.reads
