-- Which values of pending transactions were read, kept from one seal to the next.
use Rattle.std.specs.Prelude.{ℕ, ◌≡◌, Bool, true, false, ◌&&◌, ◌||◌, ◌==◌, List, IfSome, Option}
use Rattle.std.specs.BTreeSet.{BTreeSet, contains}
use Rattle.std.specs.Cmp.Lexicographic.{slice_cmp}
use Rattle.std.specs.List.{list_any}
use Rattle.std.specs.Ordering.{nat_cmp, ordering_then}
use Rattle.std.specs.declared.cmp.Ordering.{Ordering}
use Rattle.tcc_txn.specs.Bytes.{same}
use Rattle.tcc_txn.specs.Snapshots.{Sessions}
use Rattle.tcc_txn.specs.declared.op.Op.{Op}
use Rattle.tcc_txn.specs.declared.op.Op.TheVariants.{Get, Put}
use Rattle.tcc_rows.specs.Settling.{Pending, is_read}
use Rattle.tcc_rows.specs.declared.pending.PendingValues.{PendingValues}

-- values with their keys, by the keys and then by the values
abbrev pub written_cmp : List ℕ × ℕ → List ℕ × ℕ → Ordering
written_cmp a b = ordering_then (slice_cmp nat_cmp a.0 b.0) (nat_cmp a.1 b.1)

abbrev pub WrittenSet : Type 0
WrittenSet = BTreeSet (List ℕ × ℕ)

abbrev pub holds : WrittenSet → List ℕ × ℕ → Bool
holds set written = contains written_cmp set written

-- the operation writes this value at this key
abbrev pub puts : List ℕ × ℕ → Op → Bool
puts written (Get key value) = false
puts written (Put key value) = same key written.0 && (value == written.1)

-- one of the transactions writes the value at the key
abbrev pub is_written : Pending → List ℕ × ℕ → Bool
is_written pending written = list_any (λ p. list_any (puts written) p.1.ops) pending

-- nobody has read what is unread, somebody has read what is found, and what these transactions wrote is one of the two
pub record Follows (s : Sessions) (pending : Pending) (values : PendingValues) : Type 0 where
  pub unread : (written : List ℕ × ℕ) → holds values.unread written ≡ true → is_read s written ≡ false
  pub found : (written : List ℕ × ℕ) → holds values.found written ≡ true → is_read s written ≡ true
  pub covered : (written : List ℕ × ℕ) → is_written pending written ≡ true → (holds values.unread written || holds values.found written) ≡ true

-- the same where the values are kept
abbrev pub IsFollowed : Sessions → Pending → Option PendingValues → Type 0
IsFollowed s pending values = IfSome values (λ values. Follows s pending values)
