-- Visible writes, external reads and their sources: the history of a snapshot.
use Rattle.std.specs.Prelude.{ℕ, Bool, false, ◌==◌, if◌then◌else◌, List, [], ◌∷◌, map, filter_map, unwrap_or, Option, None, Some, is_none}
use Rattle.std.specs.Option.{option_or, option_eq}
use Rattle.std.specs.List.{position_from}
use Rattle.std.specs.declared.cmp.Ordering.{Ordering}
use Rattle.std.specs.Ordering.{nat_cmp, ordering_then}
use Rattle.std.specs.Cmp.Lexicographic.{slice_cmp}
use Rattle.std.specs.BTreeSet.{insert_key}
use Rattle.std.specs.FinMap.{entries}
use Rattle.std.specs.Str.{bytes_eq}
use Rattle.tcc_txn.specs.Snapshots.{Sessions}
use Rattle.tcc_txn.specs.declared.op.Op.{Op}
use Rattle.tcc_txn.specs.declared.op.Op.TheVariants.{Get, Put}
use Rattle.tcc_reads.specs.History.{Entry, History, initial}
use Rattle.tcc_reads.specs.Sites.{Stand, stands, committed, Site, sites_of}

-- whether an operation writes a key
abbrev pub puts_at : List ℕ → Op → Bool
puts_at x (Get key value) = false
puts_at x (Put key value) = bytes_eq key x

-- the value that an operation writes at a key
abbrev pub value_put : List ℕ → Op → Option ℕ
value_put x (Get key value) = None
value_put x (Put key value) = if bytes_eq key x then Some value else None

-- the visible write at a key: the value of the last write there
abbrev pub visible_write : List ℕ → List Op → Option ℕ
visible_write x [] = None
visible_write x (op ∷ later) = option_or (visible_write x later) (value_put x op)

-- the key that an operation writes
abbrev pub key_put : Op → Option (List ℕ)
key_put (Get key value) = None
key_put (Put key value) = Some key

-- what an operation reads at its key, if no own write comes before it
abbrev pub external_part : Op → (List ℕ → Option ℕ) → Option (List ℕ × ℕ)
external_part (Get key value) own = if is_none (own key) then Some (key, value) else None
external_part (Put key value) own = None

-- an external read, as key and value: no earlier operation of its transaction writes its key
abbrev pub external_read : Site → Option (List ℕ × ℕ)
external_read site = external_part site.op (λ x. visible_write x site.before)

-- whether a transaction writes this value visibly at this key
abbrev pub shows : List ℕ → ℕ → Stand → Bool
shows x value stand = option_eq ◌==◌ (visible_write x stand.txn.ops) (Some value)

-- the source of an external read: the initial transaction for 0, else the number of the committed transaction that
-- shows the value
abbrev pub source : List Stand → List ℕ → ℕ → ℕ
source all x value = if value == 0 then 0 else unwrap_or (position_from (shows x value) 1 (committed all)) 0

abbrev pub name_cmp : List ℕ → List ℕ → Ordering
name_cmp = slice_cmp nat_cmp

-- by name, then by number
abbrev pub pair_cmp : List ℕ × ℕ → List ℕ × ℕ → Ordering
pair_cmp a b = ordering_then (name_cmp a.0 b.0) (nat_cmp a.1 b.1)

-- the items in order, each once
abbrev pub sorted_once : {K : Type 0} → (K → K → Ordering) → List K → List K
sorted_once cmp [] = []
sorted_once cmp (k ∷ ks) = insert_key cmp (sorted_once cmp ks) k

-- the keys that a transaction writes visibly
abbrev pub writes_of : Stand → List (List ℕ)
writes_of stand = sorted_once name_cmp (filter_map key_put stand.txn.ops)

-- the external reads of a transaction, as key and value
abbrev pub external_reads : Stand → List (List ℕ × ℕ)
external_reads stand = filter_map external_read (sites_of stand)

-- the external reads of a transaction, as key and source
abbrev pub reads_of : List Stand → Stand → List (List ℕ × ℕ)
reads_of all stand = sorted_once pair_cmp (map (λ r. (r.0, source all r.0 r.1)) (external_reads stand))

-- a committed transaction, as the graph sees it
abbrev pub entry_of : List Stand → Stand → Entry
entry_of all stand =
    record { owner = stand.session; place = stand.place; writes = writes_of stand; reads = reads_of all stand }

abbrev pub history_of : List (List ℕ) → List Stand → History
history_of names all = record { sessions = names; entries = initial ∷ map (entry_of all) (committed all) }

-- the history of a snapshot
abbrev pub history : Sessions → History
history s = history_of (map (λ named. named.0) (entries s)) (stands s)
