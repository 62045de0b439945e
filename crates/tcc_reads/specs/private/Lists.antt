-- Transactions by the indices of their keys, from the lists in which they are held.
use Rattle.std.specs.Prelude.{ℕ, List, [], ◌∷◌, drop, slice_index_or}
use Rattle.tcc_reads.specs.Indexed.{Indexed}

-- each has its session and place, and its rows of what is written and read
unfoldable pub transactions_of : List (ℕ × ℕ) → List (List ℕ) → List (List (ℕ × ℕ)) → List Indexed
transactions_of [] writes reads = []
transactions_of (place ∷ places) writes reads = record {
  owner = place.0;
  place = place.1;
  writes = slice_index_or writes 0 [];
  reads = slice_index_or reads 0 [];
} ∷ transactions_of places (drop 1 writes) (drop 1 reads)
