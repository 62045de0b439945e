-- What a cut keeps of a snapshot.
use Rattle.std.specs.Prelude.{ℕ, ◌≡◌, ◌<◌, ◌≤◌, ◌+◌, ◌-◌, ◌==◌, ◌&&◌, Bool, not, true, false, Contains, if◌then◌else◌, List, [], ◌∷◌, ◌++◌, length, filter, flat_map, slice_get, slice_index, slice_index_or, unwrap_or, is_none, Option, None, Some}
use Rattle.std.specs.FinMap.{entries}
use Rattle.std.specs.List.{list_any}
use Rattle.std.specs.Option.{option_map_or}
use Rattle.std.specs.Str.{bytes_eq}
use Rattle.tcc_txn.specs.Snapshots.{Sessions, finished_at}
use Rattle.tcc_txn.specs.Transactions.{Transaction}
use Rattle.tcc_txn.specs.declared.op.Op.{Op}
use Rattle.tcc_txn.specs.declared.op.Op.TheVariants.{Get, Put}
use Rattle.tcc_reads.specs.History.{History, count}
use Rattle.tcc_reads.specs.Sites.{Stand, stands}
use Rattle.tcc_reads.specs.Sources.{visible_write}
use Rattle.tcc_graph.specs.Numbers.{at}
use Rattle.tcc_graph.specs.Operations.{source_value}
use Rattle.tcc_graph.specs.declared.link.Link.{Link}
use Rattle.tcc_slices.specs.Needs.{IsMet}
use Rattle.tcc_slices.specs.declared.needs.Need.{Need}
use Rattle.tcc_slices.specs.declared.needs.Need.TheVariants as need

-- the transaction of a number; none for `init` and past the last
abbrev pub recorded_of : Sessions → History → ℕ → Option Transaction
recorded_of s h n = option_map_or (λ p. if p.1 == 0 then None else slice_get (finished_at s p.0) (p.1 - 1)) (at h n) None

-- the value that operations write visibly at a key, 0 for none
abbrev pub value_shown : List ℕ → List Op → ℕ
value_shown x ops = unwrap_or (visible_write x ops) 0

-- the operation of the transaction of a number that a need is; none where it only has to be there
abbrev pub wanted_of : Sessions → History → ℕ → Need → List Op
wanted_of s h n need.There = []
wanted_of s h n (need.Write x) = Put x (source_value s h n x) ∷ []
wanted_of s h n (need.Read x a) = Get x (source_value s h a x) ∷ []

abbrev pub same_op : Op → Op → Bool
same_op (Get x v) (Get y w) = bytes_eq x y && (v == w)
same_op (Get x v) (Put y w) = false
same_op (Put x v) (Get y w) = false
same_op (Put x v) (Put y w) = bytes_eq x y && (v == w)

-- whether an operation may be read from others: no operation before it writes its key
abbrev pub is_free : List Op → Op → Bool
is_free before (Get x v) = is_none (visible_write x before)
is_free before (Put x v) = true

-- whether an operation is among others
abbrev pub is_among : List Op → Op → Bool
is_among ops op = list_any (λ one. same_op one op) ops

-- whether an operation after some others is a wanted one, for the first time
abbrev pub is_wanted : List Op → List Op → Op → Bool
is_wanted wanted before op = (is_among wanted op && is_free before op) && not (is_among before op)

-- what is kept of operations after some others
abbrev pub kept_behind : (List Op → Op → Bool) → List Op → List Op → List Op
kept_behind keep before [] = []
kept_behind keep before (op ∷ after) =
    if keep before op then op ∷ kept_behind keep (before ++ op ∷ []) after else kept_behind keep (before ++ op ∷ []) after

-- the operations of the transaction of a number that its needs are
abbrev pub wanted_by : Sessions → History → List (ℕ × Need) → ℕ → List Op
wanted_by s h own n = flat_map (λ one. wanted_of s h n one.1) own

-- what is kept of its operations
abbrev pub kept_by : Sessions → History → List (ℕ × Need) → ℕ → List Op → List Op
kept_by s h own n ops = kept_behind (is_wanted (wanted_by s h own n)) [] ops

-- the needs of the transaction of a number
abbrev pub own_needs : List (ℕ × Need) → ℕ → List (ℕ × Need)
own_needs needs n = filter (λ one. one.0 == n) needs

-- the session of the transaction of a number has this name
abbrev pub IsNamed : Sessions → History → ℕ → List ℕ → Type 0
IsNamed s h n x = (i : ℕ) × (p : ℕ) × (at h n ≡ Some (i, p)) × (i < length (entries s)) × ((slice_index_or (entries s) i (x, [])).0 ≡ x)

-- the transaction of a number has no session
abbrev pub IsNameless : Sessions → History → ℕ → Type 0
IsNameless s h n = (i : ℕ) (p : ℕ) → at h n ≡ Some (i, p) → length (entries s) ≤ i

-- a transaction is what is kept of the one of a number, which was committed
pub record IsPartOf (s : Sessions) (h : History) (own : List (ℕ × Need)) (n : ℕ) (t : Transaction) : Type 0 where
  pub whole : Transaction
  pub there : recorded_of s h n ≡ Some whole
  pub was : whole.committed ≡ true
  pub ended : t.committed ≡ true
  pub kept : t.ops ≡ kept_by s h own n whole.ops

-- what is kept of the transaction of a number is in a session of its session's name
pub record IsPartAt (s : Sessions) (h : History) (needs : List (ℕ × Need)) (n : ℕ) (t : Stand) : Type 0 where
  pub named : IsNamed s h n t.name
  pub part : IsPartOf s h (own_needs needs n) n t.txn

-- each of the numbers after the first is met by the links, and one of the history
abbrev pub AreMetBy : History → List Link → List ℕ → Type 0
AreMetBy h links numbers = (k : ℕ) → 0 < k → k < length numbers → IsMet links (slice_index numbers k) × (slice_index numbers k < count h)

-- the cut of a snapshot by needs: of each transaction that has one of the first of these numbers, but the very first, in their order, what
-- is kept
pub record IsCut (s : Sessions) (h : History) (needs : List (ℕ × Need)) (numbers : List ℕ) (count : ℕ) (slice : Sessions) : Type 0 where
  pub long : count ≡ length (stands slice) + 1
  pub each : (i : ℕ) (d : Stand) → i < length (stands slice) → IsPartAt s h needs (slice_index numbers (i + 1)) (slice_index_or (stands slice) i d)
  pub names : (e : List ℕ × List Transaction) → Contains (entries slice) e
      → (k : ℕ) × (0 < k) × (k < count) × IsNamed s h (slice_index numbers k) e.0
