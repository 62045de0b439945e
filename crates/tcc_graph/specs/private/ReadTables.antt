-- What transactions write and read by the indices of the keys, and the table of which read from which.
use Rattle.std.specs.Prelude.{ℕ, ◌<◌, ◌≤◌, ◌≡◌, ◌==◌, Bool, true, false, List, [], ◌++◌, length, map, filter, slice_index_or, All}
use Rattle.tcc_txn.specs.declared.limits.TheConstants.{LARGE_COUNT}
use Rattle.std.specs.List.Sorted.{IsStrictlySortedBy}
use Rattle.tcc_reads.specs.History.{Entry, History, IsBySession, initial}
use Rattle.tcc_reads.specs.Indexed.{Indexed, entries_of, indexed_of, named}
use Rattle.tcc_reads.specs.Sources.{pair_cmp}
use Rattle.tcc_graph.specs.private.Grouped.{as_group, groups}
use Rattle.tcc_graph.specs.KeyIndices.{name_of}
use Rattle.tcc_graph.specs.Tables.{row_of}

-- what is read from a, of reads with their sources
abbrev pub values_from : {X : Type 0} → List (X × ℕ) → ℕ → List X
values_from reads a = map (λ read. read.0) (filter (λ read. read.1 == a) reads)

-- each value was added at the end of its row, with the number of its group
pub record AddsValues {X : Type 0} (old : List (List (ℕ × X))) (new : List (List (ℕ × X))) (group : ℕ) (values : List (X × ℕ)) : Type 0 where
  pub long : length new ≡ length old
  pub rows : (a : ℕ) → row_of new a ≡ row_of old a ++ as_group group (values_from values a)

-- each of `count` rows has its values from the first n lists, each in the group of its list
pub record IsTableOf {X : Type 0} (count : ℕ) (lists : ℕ → List (X × ℕ)) (n : ℕ) (table : List (List (ℕ × X))) : Type 0 where
  pub long : length table ≡ count
  pub rows : (a : ℕ) → a < count → row_of table a ≡ groups (λ b. values_from (lists b) a) n

-- the history of these transactions, without sessions: the relations don't need them
abbrev pub over : List Entry → History
over entries = record { sessions = []; entries = entries }

-- the history of these sessions and transactions
abbrev pub history_of : List (List ℕ) → List (List ℕ) → List Indexed → History
history_of sessions names indexed = record { sessions = sessions; entries = entries_of names indexed }

-- the indices are those of the transaction's keys among these names
pub record IsIndexed (names : List (List ℕ)) (e : Entry) (p : Indexed) : Type 0 where
  pub owner : p.owner ≡ e.owner
  pub place : p.place ≡ e.place
  pub writes : map (name_of names) p.writes ≡ e.writes
  pub reads : named names p.reads ≡ e.reads
  pub writes_within : All (λ k. k < length names) p.writes
  pub reads_within : All (λ read. read.0 < length names) p.reads

-- the indices of its keys all pass the test
pub record UsesOnly (passes : ℕ → Bool) (p : Indexed) : Type 0 where
  pub writes : All (λ k. passes k ≡ true) p.writes
  pub reads : All (λ read. passes read.0 ≡ true) p.reads

-- only numbers that pass the test are marked
abbrev pub MarksOnly : (ℕ → Bool) → List Bool → Type 0
MarksOnly passes marks = (k : ℕ) → k < length marks → slice_index_or marks k false ≡ true → passes k ≡ true

-- each transaction is held by the indices of its keys
pub record AreIndexed (names : List (List ℕ)) (entries : List Entry) (indexed : List Indexed) : Type 0 where
  pub long : length indexed ≡ length entries
  pub each : (n : ℕ) → n < length entries → IsIndexed names (slice_index_or entries n initial) (indexed_of indexed n)

-- the row of each transaction has the indices of the keys that the first n transactions read from it, each with its reader
abbrev pub IsIndexTable : ℕ → List Indexed → ℕ → List (List (ℕ × ℕ)) → Type 0
IsIndexTable count indexed n table = IsTableOf count (λ b. (indexed_of indexed b).reads) n table

-- each read of a transaction has its source among n transactions
abbrev pub HasSources : ℕ → Entry → Type 0
HasSources n e = All (λ read. read.1 < n) e.reads

-- the reads of a transaction are in order, each once
abbrev pub HasReadsInOrder : Entry → Type 0
HasReadsInOrder e = IsStrictlySortedBy pair_cmp e.reads

-- the transactions of a history are few, have sessions and read from one another
pub record IsListOf (h : History) (entries : List Entry) : Type 0 where
  pub is : entries ≡ h.entries
  pub some : 0 < length entries
  pub few : length entries ≤ LARGE_COUNT
  pub owners : (n : ℕ) → 0 < n → n < length entries → (slice_index_or entries n initial).owner < length h.sessions
  pub ordered : IsBySession entries
  pub sources : All (HasSources (length entries)) entries
  pub reads_ordered : All HasReadsInOrder entries
