-- Transactions of unknown outcome: each counts as committed once a committed transaction has read a value of it.
use Rattle.std.specs.Prelude.{ℕ, Bool, false, not, ◌&&◌, ◌==◌, if◌then◌else◌, List, [], ◌∷◌, ◌++◌, filter, fold, map}
use Rattle.std.specs.FinMap as finite
use Rattle.std.specs.List.{list_any}
use Rattle.tcc_txn.specs.Bytes.{same}
use Rattle.tcc_txn.specs.Finished.{with_transaction}
use Rattle.tcc_txn.specs.Snapshots.{Sessions}
use Rattle.tcc_txn.specs.Transactions.{Transaction}
use Rattle.tcc_txn.specs.declared.op.Op.{Op}
use Rattle.tcc_txn.specs.declared.op.Op.TheVariants.{Get, Put}
use Rattle.tcc_rows.specs.Items.{with_item}
use Rattle.tcc_rows.specs.declared.rows.Item.{Item}
use Rattle.tcc_rows.specs.declared.rows.Item.TheVariants as item

-- the operation reads this value at this key
abbrev pub gets : List ℕ × ℕ → Op → Bool
gets written (Get key value) = same key written.0 && (value == written.1)
gets written (Put key value) = false

-- a committed transaction reads the value at the key
abbrev pub is_read_by : List ℕ × ℕ → Transaction → Bool
is_read_by written txn = txn.committed && list_any (gets written) txn.ops

-- some transaction of a session does
abbrev pub is_read_in : List ℕ × ℕ → List ℕ × List Transaction → Bool
is_read_in written named = list_any (is_read_by written) named.1

abbrev pub is_read : Sessions → List ℕ × ℕ → Bool
is_read s written = list_any (is_read_in written) (finite.entries s)

-- the operation is a write whose value was read
abbrev pub is_seen_write : Sessions → Op → Bool
is_seen_write s (Get key value) = false
is_seen_write s (Put key value) = is_read s (key, value)

-- some value that the transaction wrote was read
abbrev pub is_seen : Sessions → Transaction → Bool
is_seen s txn = list_any (is_seen_write s) txn.ops

-- transactions of unknown outcome by their sessions, each as it is if it was committed
abbrev pub Pending : Type 0
Pending = List (List ℕ × Transaction)

-- those of which a value was read, and the others
abbrev pub seen_among : Sessions → Pending → Pending
seen_among s pending = filter (λ p. is_seen s p.1) pending

abbrev pub unseen_among : Sessions → Pending → Pending
unseen_among s pending = filter (λ p. not (is_seen s p.1)) pending

-- the item of one that counts as committed
abbrev pub told : List ℕ × Transaction → Item
told p = item.Finished p.0 p.1

abbrev pub shown : Sessions → Pending → List Item
shown s pending = map told (seen_among s pending)

-- what is finished together with those of which a value was read
abbrev pub with_shown : Sessions → Pending → Sessions
with_shown s pending = fold with_item s (shown s pending)

-- Items with those of unknown outcome settled, when `s` is finished before and these are pending. At each seal, and at the end
-- if there is one, those of which a value was read are finished before it. The others stay pending.
abbrev pub settled_after : Bool → Sessions → Pending → List Item → List Item
settled_after ends s pending [] = if ends then shown s pending else []
settled_after ends s pending (item.Finished session txn ∷ rest) =
    item.Finished session txn ∷ settled_after ends (with_transaction s session txn) pending rest
settled_after ends s pending (item.Unknown session txn ∷ rest) = settled_after ends s (pending ++ (session, txn) ∷ []) rest
settled_after ends s pending (item.Seal ∷ rest) =
    shown s pending ++ item.Seal ∷ settled_after ends (with_shown s pending) (unseen_among s pending) rest
settled_after ends s pending (item.End ∷ rest) = item.End ∷ settled_after ends s pending rest
