-- A snapshot in memory.
use Rattle.std.proofs.Common.{◌≡◌, ℕ, ◌≤◌, inl, inr, true, List, [], length, sum_by, refl, ap, sym, ◌∙◌, subst, arith, None, T, ◌∷◌, ◌&&◌}
use Rattle.std.proofs.lemmas.Option.{slice_get_cases}
use Rattle.std.specs.List.{IsDistinct}
use Rattle.std.specs.FinMap.Entries.{below_all}
use Rattle.std.specs.Ordering.{is_lt}
use Rattle.std.proofs.lemmas.List.Sums.{get_or-le-sum_by}
use Rattle.std.proofs.lemmas.List.Sorted.{length_permutation, sum_by-IsPermutation, IsPermutation-map}
use Rattle.std.specs.List.Sorted.{IsPermutation, IsSortedByKey}
use Rattle.std.specs.Ordering.{nat_cmp}
use Rattle.std.specs.Cmp.Lexicographic.{slice_cmp}
use Rattle.std.specs.FinMap as finite
use Rattle.std.specs.Global.{Vec}
use Rattle.tcc_txn.specs.Transactions.{Transaction}
use Rattle.tcc_txn.specs.Finished.{IsWithinLimits, transaction_count}
use Rattle.tcc_txn.specs.Limits.{most_transactions}
use Rattle.tcc_txn.specs.Snapshots.{Sessions, finished_at, first_repeated, listed_at, parts_of, snapshot_fault_within}
use Rattle.tcc_txn.specs.private.SnapshotStorage.{shown, IsStoredWithin}
use Rattle.tcc_txn.proofs.Parts.{names_of, names_of-parts_of, length-parts_of, sum_by-parts_of}
use Rattle.tcc_txn.proofs.SnapshotFaults.{snapshot_fault-parts_of, faultless}
use Rattle.tcc_txn.proofs.SortedParts.{distinct_names, distinct_IsPermutation, rising_names, shown_sorted, same_name}
use Rattle.tcc_txn.specs.declared.limits.Limits.{Limits}

-- a session's name and its transactions
abbrev pub Named : Type 0
Named = List ℕ × List Transaction

-- the entries of a snapshot are its parts
pub entries-shown : {limits : Limits} (parts : List Named) → IsStoredWithin limits parts → finite.entries (shown parts) ≡ parts
entries-shown parts stored = finite.entries-from_sorted (slice_cmp nat_cmp) parts stored.sorted

pub len-shown : {limits : Limits} (parts : List Named) → IsStoredWithin limits parts → finite.len (shown parts) ≡ length parts
len-shown parts stored = finite.len-entries (shown parts) ∙ ap length (entries-shown parts stored)

-- the list at an index is no longer than all of them
short-at : (es : List Named) (i : ℕ) → length (listed_at es i) ≤ sum_by (λ (named : Named). length named.1) es
short-at es i = elim (slice_get_cases es i).1 [
  | inl found ↦ rw found.2 (let within = get_or-le-sum_by (λ (named : Named). length named.1) es i found.0 found.1 in
      omega (arith, within, ap (λ (named : Named). length named.1) found.3))
  | inr past ↦ rw past.1 (omega arith)
]

-- a snapshot of some parts has their names, as many sessions and as many transactions
module _ {limits : Limits} (parts : List Named) (s : Sessions) (stored : IsStoredWithin limits parts) (is : shown parts ≡ s) where
  pub entries-parts : parts ≡ finite.entries s
  entries-parts = sym (entries-shown parts stored) ∙ ap (λ m. finite.entries m) is

  pub len-parts : length parts ≡ finite.len s
  len-parts = sym (len-shown parts stored) ∙ ap (λ m. finite.len m) is

  pub count-parts : sum_by (λ part. length part.1) parts ≡ transaction_count s
  count-parts = ap (sum_by (λ part. length part.1)) entries-parts

  pub short-parts : transaction_count s ≤ most_transactions limits
  short-parts = omega (arith, count-parts, stored.short)

  pub few-finished : (i : ℕ) → length (finished_at s i) ≤ most_transactions limits
  few-finished i = omega (arith, short-parts, short-at (finite.entries s) i)

  -- a snapshot is stored within other limits too, if it keeps them
  pub stored-within : (other : Limits) → IsWithinLimits other s → IsStoredWithin other parts
  stored-within other within = record {
    sorted = stored.sorted;
    few = omega (arith, within.0, len-parts);
    short = omega (arith, within.1, count-parts);
  }

below_all-parts_of : (name : List ℕ) (parts : List (List ℕ × Vec Transaction))
    → below_all (slice_cmp nat_cmp) name (parts_of parts) ≡ below_all (slice_cmp nat_cmp) name parts
below_all-parts_of name [] = refl
below_all-parts_of name (part ∷ parts) = ap (λ b. is_lt (slice_cmp nat_cmp name part.0) && b) (below_all-parts_of name parts)

pub is_sorted-parts_of : (parts : List (List ℕ × Vec Transaction))
    → finite.is_sorted (slice_cmp nat_cmp) (parts_of parts) ≡ finite.is_sorted (slice_cmp nat_cmp) parts
is_sorted-parts_of [] = refl
is_sorted-parts_of (part ∷ parts) = λ i. below_all-parts_of part.0 parts i && is_sorted-parts_of parts i

distinct_none : IsDistinct same_name []
unfolding IsDistinct
distinct_none = tt

-- parts in ascending order of names that differ show names that strictly ascend
rising_parts : (sorted : List (List ℕ × Vec Transaction)) → IsDistinct same_name (names_of sorted)
    → IsSortedByKey (λ part. part.0) (slice_cmp nat_cmp) sorted → finite.is_sorted (slice_cmp nat_cmp) (parts_of sorted) ≡ true
rising_parts sorted distinct rising = is_sorted-parts_of sorted ∙ rising_names sorted distinct rising

-- parts without a fault, sorted by name, are stored as a snapshot
pub stored_sorted : (limits : Limits) (parts sorted : List (List ℕ × Vec Transaction)) → snapshot_fault_within limits (parts_of parts) ≡ None → IsPermutation parts sorted
    → IsSortedByKey (λ part. part.0) (slice_cmp nat_cmp) sorted → IsStoredWithin limits (parts_of sorted)
stored_sorted limits parts sorted none moved rising =
    let facts =
    faultless limits (first_repeated [] (names_of parts)) (length parts) (sum_by (λ part. length part.1.items) parts)
    (sym (snapshot_fault-parts_of limits parts) ∙ none) in
    let distinct : IsDistinct same_name (names_of parts) = distinct_names [] (names_of parts) facts.distinct distinct_none in
    record {
      sorted = subst T (sym (rising_parts sorted (distinct_IsPermutation parts sorted distinct moved) rising)) tt;
      few = omega (arith, facts.few, length_permutation parts sorted moved, length-parts_of sorted);
      short = omega (arith, facts.short, sum_by-IsPermutation (λ part. length part.1.items) parts sorted moved, sum_by-parts_of sorted);
    }

-- sorted parts show the map that the parts make
pub shown_parts : (limits : Limits) (parts sorted : List (List ℕ × Vec Transaction)) → snapshot_fault_within limits (parts_of parts) ≡ None → IsPermutation parts sorted
    → IsSortedByKey (λ part. part.0) (slice_cmp nat_cmp) sorted → shown (parts_of sorted) ≡ finite.from_entries (parts_of parts)
shown_parts limits parts sorted none moved rising =
    let facts =
    faultless limits (first_repeated [] (names_of parts)) (length parts) (sum_by (λ part. length part.1.items) parts)
    (sym (snapshot_fault-parts_of limits parts) ∙ none) in
    let distinct : IsDistinct same_name (names_of parts) = distinct_names [] (names_of parts) facts.distinct distinct_none in
    let parts_distinct : IsDistinct same_name (names_of (parts_of parts)) = subst (IsDistinct same_name) (sym (names_of-parts_of parts)) distinct in
    shown_sorted (parts_of parts) (parts_of sorted) parts_distinct
    (IsPermutation-map (λ part. (part.0, part.1.items)) parts sorted moved)
    (rising_parts sorted (distinct_IsPermutation parts sorted distinct moved) rising)
