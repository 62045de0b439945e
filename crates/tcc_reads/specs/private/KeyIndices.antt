-- The keys of operations, each by its index.
use Rattle.std.specs.Prelude.{ℕ, ◌≡◌, Bool, true, List, [], ◌∷◌, map, flat_map, Option, unwrap_or}
use Rattle.std.specs.List.{list_any, position_from}
use Rattle.std.specs.Str.{bytes_eq}
use Rattle.tcc_txn.specs.declared.op.Op.{Op}
use Rattle.tcc_txn.specs.declared.op.Op.TheVariants.{Get, Put}
use Rattle.tcc_txn.specs.Transactions.{op_key}
use Rattle.tcc_reads.specs.private.Numbers.{Numbered}

abbrev pub has_key : List (List ℕ) → List ℕ → Bool
has_key keys x = list_any (bytes_eq x) keys

-- the first index at which the list has the key
abbrev pub index_of : List (List ℕ) → List ℕ → Option ℕ
index_of keys x = position_from (bytes_eq x) 0 keys

-- the index of a key of the list
abbrev pub key_index : List (List ℕ) → List ℕ → ℕ
key_index keys x = unwrap_or (index_of keys x) 0

-- the keys of the operations of these transactions, in order
abbrev pub keys_used : List Numbered → List (List ℕ)
keys_used ns = flat_map (λ n. map op_key n.stand.txn.ops) ns

-- each key that these operations write is in the list
abbrev pub AreKnownIn : List (List ℕ) → List Op → Type 0
AreKnownIn keys [] = Unit {0}
AreKnownIn keys (Get key value ∷ later) = AreKnownIn keys later
AreKnownIn keys (Put key value ∷ later) = (has_key keys key ≡ true) × AreKnownIn keys later

-- each key that these transactions write is in the list
abbrev pub AreKnown : List (List ℕ) → List Numbered → Type 0
AreKnown keys [] = Unit {0}
AreKnown keys (n ∷ later) = AreKnownIn keys n.stand.txn.ops × AreKnown keys later

-- the indices of the keys that these operations write, in order
abbrev pub indices_put : List (List ℕ) → List Op → List ℕ
indices_put keys [] = []
indices_put keys (Get key value ∷ later) = indices_put keys later
indices_put keys (Put key value ∷ later) = key_index keys key ∷ indices_put keys later
