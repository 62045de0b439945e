-- The values that were written so far, and where reads come from.
use Rattle.std.specs.Prelude.{ℕ, ◌<◌, ◌≤◌, ◌≡◌, Bool, true, not, ◌||◌, ◌==◌, if◌then◌else◌, List, [], ◌∷◌, ◌++◌, length, slice_index_or, Contains, take, Option, None, Some, is_some, unwrap_or}
use Rattle.std.specs.BTreeMap.{is_at}
use Rattle.std.specs.Map.{lookup}
use Rattle.std.specs.List.{list_any}
use Rattle.std.specs.Option.{option_eq}
use Rattle.std.specs.Ordering.{nat_cmp, ordering_then}
use Rattle.std.specs.declared.cmp.Ordering.{Ordering}
use Rattle.tcc_txn.specs.declared.op.Op.{Op}
use Rattle.tcc_txn.specs.declared.op.Op.TheVariants.{Get, Put}
use Rattle.tcc_txn.specs.Transactions.{Transaction}
use Rattle.tcc_reads.specs.Faults.{puts}
use Rattle.tcc_reads.specs.History.{History, count}
use Rattle.tcc_reads.specs.Sources.{visible_write}
use Rattle.tcc_watch.specs.Ledger.{IsNumbered, IsPlaced, IsRead, Lists, ReadsExternally}
use Rattle.tcc_watch.specs.private.Numbered.{AreApart, number_in}

-- the keys, and what is noted by the number of a key and a value
pub record ValueMap : Type 0 where
  pub keys : List (List ℕ)
  pub entries : List ((ℕ × ℕ) × Option ℕ)

-- by the number, and then by the value
abbrev pub spot_cmp : ℕ × ℕ → ℕ × ℕ → Ordering
spot_cmp a b = ordering_then (nat_cmp a.0 b.0) (nat_cmp a.1 b.1)

-- what is noted of a value at the key of a number
abbrev pub noted_at : List ((ℕ × ℕ) × Option ℕ) → ℕ → ℕ → Option (Option ℕ)
noted_at entries k v = lookup (is_at (spot_cmp (k, v))) entries

-- what is noted of a value: none where nobody wrote it
abbrev pub noted : ValueMap → List ℕ → ℕ → Option (Option ℕ)
noted values x v = noted_at values.entries (number_in x values.keys) v

-- each key has one number, and nothing is noted of other numbers
abbrev pub AreValuesOf : List (List ℕ) → List ((ℕ × ℕ) × Option ℕ) → Type 0
AreValuesOf keys entries = AreApart keys × ((k v : ℕ) → length keys ≤ k → noted_at entries k v ≡ None)

-- this is noted of a value, and of others what was
pub record Notes (old : ValueMap) (new : ValueMap) (x : List ℕ) (v : ℕ) (shown : Option ℕ) : Type 0 where
  pub here : noted new x v ≡ Some shown
  pub others : (y : List ℕ) (u : ℕ) → (y ≡ x → u ≡ v → ⊥) → noted new y u ≡ noted old y u

-- the number from which a value is read, where it has come
abbrev pub source_in : ValueMap → List ℕ → ℕ → Option ℕ
source_in values x v = if v == 0 then Some 0 else unwrap_or (noted values x v) None

-- what a read adds to the reads so far: nothing, where it is of an own write's value, or the source of the value
abbrev pub AddsRead : ValueMap → List ℕ → ℕ → Option ℕ → List (List ℕ × ℕ) → List (List ℕ × ℕ) → Type 0
AddsRead values x v (Some own) old new = (own ≡ v) × (new ≡ old)
AddsRead values x v None old new = (n : ℕ) × (source_in values x v ≡ Some n) × (new ≡ old ++ (x, n) ∷ [])

abbrev pub AddsSource : ValueMap → List Op → Op → List (List ℕ × ℕ) → List (List ℕ × ℕ) → Type 0
AddsSource values before (Put x v) old new = new ≡ old
AddsSource values before (Get x v) old new = AddsRead values x v (visible_write x before) old new

-- these are the sources of the external reads among the first of the operations
pub record AreSourcesBelow (values : ValueMap) (ops : List Op) (end : ℕ) (reads : List (List ℕ × ℕ)) : Type 0 where
  pub own : (i : ℕ) (x : List ℕ) (v w : ℕ) → i < end → IsRead ops i x v → visible_write x (take i ops) ≡ Some w → w ≡ v
  pub given : (i : ℕ) (x : List ℕ) (v : ℕ) → i < end → IsRead ops i x v → visible_write x (take i ops) ≡ None
      → (n : ℕ) × (source_in values x v ≡ Some n) × Contains reads (x, n)
  pub only : (x : List ℕ) (n : ℕ) → Contains reads (x, n) → (v : ℕ) × ReadsExternally ops x v × (source_in values x v ≡ Some n)

abbrev pub AreSources : ValueMap → List Op → List (List ℕ × ℕ) → Type 0
AreSources values ops reads = AreSourcesBelow values ops (length ops) reads

-- whether an operation after some others writes nothing that was written
abbrev pub is_unwritten : ValueMap → List Op → Op → Bool
is_unwritten values before (Get x v) = true
is_unwritten values before (Put x v) = not (is_some (noted values x v) || list_any (puts x v) before)

-- so do the first of them
abbrev pub AreUnwrittenBelow : ValueMap → List Op → ℕ → Type 0
AreUnwrittenBelow values ops end = (i : ℕ) (d : Op) → i < end → i < length ops → is_unwritten values (take i ops) (slice_index_or ops i d) ≡ true

abbrev pub AreUnwritten : ValueMap → List Op → Type 0
AreUnwritten values ops = AreUnwrittenBelow values ops (length ops)

-- a transaction's number, where it writes the value visibly
abbrev pub number_shown : List Op → Option ℕ → List ℕ → ℕ → Option ℕ
number_shown ops number x v = if option_eq ◌==◌ (visible_write x ops) (Some v) then number else None

-- each value that some of a transaction's operations write is noted, and of all others what was
pub record AreNoted (ops : List Op) (number : Option ℕ) (some : List Op) (old : ValueMap) (new : ValueMap) : Type 0 where
  pub here : (x : List ℕ) (v : ℕ) → Contains some (Put x v) → noted new x v ≡ Some (number_shown ops number x v)
  pub others : (x : List ℕ) (v : ℕ) → (Contains some (Put x v) → ⊥) → noted new x v ≡ noted old x v

abbrev pub NotesValue : List Op → Option ℕ → Op → ValueMap → ValueMap → Type 0
NotesValue ops number op old new = AreNoted ops number (op ∷ []) old new

-- each value that is written in the lists is noted, with the number of who writes it visibly, if there is one
pub record AreValues (lists : Lists) (names : List (List ℕ)) (h : History) (values : ValueMap) : Type 0 where
  pub known : (name : List ℕ) (p : ℕ) (txn : Transaction) (x : List ℕ) (v : ℕ) → IsPlaced lists name p txn → Contains txn.ops (Put x v)
      → noted values x v ≡ None → ⊥
  pub shown : (x : List ℕ) (v n : ℕ) → noted values x v ≡ Some (Some n)
      → (0 < n) × (n < count h) × ((txn : Transaction) × (IsNumbered lists names h n txn × (visible_write x txn.ops ≡ Some v)))
