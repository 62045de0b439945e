-- How a resolved history is stored in memory.
use Rattle.std.specs.Prelude.{ℕ, ◌≡◌, ◌<◌, ◌≤◌, List, length, All, slice_index_or}
use Rattle.std.specs.List.Sorted.{IsStrictlySortedBy}
use Rattle.std.below.core.specs.declared.int.u32.TheConstants.{MAX}
use Rattle.tcc_txn.specs.declared.limits.TheConstants.{LARGE_COUNT, LARGE_SESSIONS}
use Rattle.tcc_reads.specs.History.{Entry, History, IsBySession, initial, places_of}
use Rattle.tcc_reads.specs.Indexed.{Indexed, IsWithin}
use Rattle.tcc_reads.specs.Sources.{name_cmp, pair_cmp}

pub record IsStored (sessions : List (List ℕ)) (places : List (ℕ × ℕ)) (entries : List Entry) : Type 0 where
  pub places_again : places ≡ places_of entries
  pub few_sessions : length sessions ≤ LARGE_SESSIONS
  pub some : 0 < length entries
  pub first : slice_index_or entries 0 initial ≡ initial
  pub few : length entries ≤ LARGE_COUNT
  pub owners : All (λ p. p.0 < length sessions) places
  pub sources : All (λ e. All (λ r. r.1 < length entries) e.reads) entries
  pub reads_ordered : All (λ e. IsStrictlySortedBy pair_cmp e.reads) entries
  pub ordered : IsBySession entries

-- the keys are in byte order, each once, and the transactions have indices of them
pub record AreKeyed (keys : List (List ℕ)) (indexed : List Indexed) : Type 0 where
  pub sorted : IsStrictlySortedBy name_cmp keys
  pub few : length keys ≤ MAX
  pub within : All (IsWithin (length keys)) indexed

-- the transactions of a history, whose reads have sources there and are in order
pub record AreNamed (h : History) (named : List Entry) : Type 0 where
  pub is : named ≡ h.entries
  pub sources : All (λ e. All (λ r. r.1 < length h.entries) e.reads) named
  pub reads_ordered : All (λ e. IsStrictlySortedBy pair_cmp e.reads) named
