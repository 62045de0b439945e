-- What the tables of a graph hold.
use Rattle.std.specs.Prelude.{ℕ, ◌<◌, ◌≤◌, ◌≡◌, List, [], length, map, slice_index_or, All}
use Rattle.std.specs.Ordering.{nat_cmp}
use Rattle.std.specs.Cmp.Lexicographic.{slice_cmp}
use Rattle.std.specs.List.Sorted.{IsStrictlySortedBy}
use Rattle.tcc_txn.specs.declared.limits.TheConstants.{LARGE_COUNT, LARGE_SESSIONS}
use Rattle.tcc_reads.specs.History.{Entry, History, IsBySession, count, entry_at, initial}
use Rattle.tcc_graph.specs.Relations.{reads_from}
use Rattle.tcc_graph.specs.Readings.{AreReadings}
use Rattle.tcc_graph.specs.Keys.{keys}
use Rattle.tcc_graph.specs.private.Grouped.{of_group}
use Rattle.tcc_reads.specs.Indexed.{Indexed}
use Rattle.tcc_graph.specs.private.ReadTables.{over, HasSources, HasReadsInOrder, AreIndexed, IsIndexTable}
use Rattle.tcc_graph.specs.private.KeyRows.{AreReaders, AreWriters}

-- the tables are those of these transactions
pub record IsGraph {X : Type 0} (sessions : List (List ℕ)) (entries : List Entry) (names : List (List ℕ)) (indices : List Indexed) (read_indices : List (List (ℕ × ℕ)))
    (writer_rows : List (List (ℕ × X))) (reader_rows : List (List (ℕ × ℕ))) : Type 0 where
  pub few_sessions : length sessions ≤ LARGE_SESSIONS
  pub some : 0 < length entries
  pub few : length entries ≤ LARGE_COUNT
  pub owners : (n : ℕ) → 0 < n → n < length entries → (slice_index_or entries n initial).owner < length sessions
  pub ordered : IsBySession entries
  pub sources : All (HasSources (length entries)) entries
  pub reads_ordered : All HasReadsInOrder entries
  pub keyed : names ≡ keys (over entries)
  pub sorted : IsStrictlySortedBy (slice_cmp nat_cmp) names
  pub indexed : AreIndexed names entries indices
  pub read_indexed : IsIndexTable (length entries) indices (length entries) read_indices
  pub written : AreWriters indices (length names) (length entries) writer_rows
  pub read : AreReaders indices (length names) reader_rows

-- what a transaction writes, what it reads, and what is read from it, by the names of the keys
pub record Named : Type 0 where
  pub writes : List (List ℕ)
  pub reads : List (List ℕ × ℕ)
  -- each key in the group of its reader
  pub readings : List (ℕ × List ℕ)

abbrev pub named_of : List Named → ℕ → Named
named_of names n = slice_index_or names n (record { writes = []; reads = []; readings = [] })

-- what is named has what the transaction of a number has
pub record IsNamed (h : History) (n : ℕ) (p : Named) : Type 0 where
  pub writes : p.writes ≡ (entry_at h n).writes
  pub reads : p.reads ≡ (entry_at h n).reads
  pub sources : All (λ read. read.1 < count h) p.reads
  pub from : (b : ℕ) → b < count h → of_group p.readings b ≡ reads_from h n b
  pub readings : AreReadings h n (map (λ q. q.0) p.readings) (map (λ q. q.1) p.readings)

-- what is named has, number by number, what the first m transactions have
pub record AreNamed (h : History) (m : ℕ) (names : List Named) : Type 0 where
  pub long : length names ≡ m
  pub each : (n : ℕ) → n < m → IsNamed h n (named_of names n)
