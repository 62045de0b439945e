-- What the resolver finds out about the operations, in terms of its table of first writes. Proofs show that this is what
-- Faults and Sources say.
use Rattle.std.specs.Prelude.{ℕ, ◌≡◌, ◌<◌, slice_index_or, Bool, ◌&&◌, ◌==◌, not, if◌then◌else◌, List, []}
use Rattle.std.specs.Prelude.{◌∷◌, ◌++◌, map, filter, filter_map, flat_map, find, length, ◌+◌, Option, None, Some}
use Rattle.std.specs.Prelude.{option_map}
use Rattle.std.specs.Option.{option_and_then}
use Rattle.std.specs.List.{list_any, AllAdjacentBelow}
use Rattle.std.specs.List.Sorted.{IsPermutation, IsSorted, IsStable}
use Rattle.std.specs.Ordering.{nat_cmp, ordering_then}
use Rattle.std.specs.declared.cmp.Ordering.{Ordering}
use Rattle.std.specs.declared.cmp.Ordering.TheVariants.{Less}
use Rattle.tcc_txn.specs.declared.op.Op.{Op}
use Rattle.tcc_txn.specs.declared.op.Op.TheVariants.{Get, Put}
use Rattle.tcc_reads.specs.declared.fault.ReadFault.{ReadFault}
use Rattle.tcc_reads.specs.declared.fault.ReadFaultKind.TheVariants.{Duplicate, BrokenInternal, ThinAir, Aborted, Intermediate, Future}
use Rattle.tcc_reads.specs.declared.writers.Writer.{Writer}
use Rattle.tcc_reads.specs.declared.writers.Write.{Write}
use Rattle.tcc_reads.specs.declared.judging.OpJudgement.{OpJudgement}
use Rattle.tcc_reads.specs.declared.judging.OpJudgement.TheVariants.{Faulty, ReadsFrom, Silent}
use Rattle.tcc_reads.specs.History.{Entry}
use Rattle.tcc_reads.specs.Sites.{Stand, Site, at, sites_of}
use Rattle.tcc_reads.specs.private.Numbers.{Numbered}
use Rattle.tcc_reads.specs.private.KeyIndices.{index_of, key_index}
use Rattle.tcc_reads.specs.Sources.{puts_at, visible_write, pair_cmp, sorted_once, writes_of as keys_written}
use Rattle.tcc_reads.specs.Faults.{puts}
use Rattle.tcc_txn.specs.Transactions.{op_key, op_value}

-- what the table keeps of a write at this position of its transaction
abbrev pub write_at : Numbered → ℕ → Bool → Writer
write_at n position last = record {
  session = n.stand.session;
  place = n.stand.place;
  op = position;
  number = if n.stand.txn.committed then Some n.number else None;
  last = last;
}

-- what the table keeps of a write of a key after these operations of its transaction and before those
abbrev pub writer_at : Numbered → List Op → List ℕ → List Op → Writer
writer_at n before key after = write_at n (length before + 1) (not (list_any (puts_at key) after))

-- the first write of a value at a key among these operations, and else another one
abbrev pub first_in : Numbered → List Op → List Op → List ℕ → ℕ → Option Writer → Option Writer
first_in n before [] x v otherwise = otherwise
first_in n before (op ∷ after) x v otherwise =
    if puts x v op then Some (writer_at n before (op_key op) after) else first_in n (before ++ op ∷ []) after x v otherwise

-- the first write of a value at a key in these transactions
abbrev pub first_writer : List Numbered → List ℕ → ℕ → Option Writer
first_writer [] x v = None
first_writer (n ∷ later) x v = first_in n [] n.stand.txn.ops x v (first_writer later x v)

-- a table of writes: what it has for a value at a key
abbrev pub Writes : Type 0
Writes = List ℕ → ℕ → Option Writer

-- keys, and of each a row with its writes
pub record Table : Type 0 where
  pub keys : List (List ℕ)
  pub rows : List (List Write)

-- whether a write is of this value at the key of this index
abbrev pub is_of : ℕ → ℕ → Write → Bool
is_of k v write = (write.key == k) && (write.value == v)

-- the first writer in a list of writes of a value at the key of an index
abbrev pub writer_of : List Write → ℕ → ℕ → Option Writer
writer_of writes k v = option_map (λ write. write.writer) (find (is_of k v) writes)

-- a row of writes
abbrev pub row_at : List (List Write) → ℕ → List Write
row_at rows k = slice_index_or rows k []

-- the writers in a table
abbrev pub writers_in : Table → Writes
writers_in table x v = option_and_then (λ k. writer_of (row_at table.rows k) k v) (index_of table.keys x)

-- the order of a write and of a write of this value at the key of this index: by key, then by value
abbrev pub spot_cmp : Write → ℕ → ℕ → Ordering
spot_cmp write k v = ordering_then (nat_cmp write.key k) (nat_cmp write.value v)

abbrev pub write_cmp : Write → Write → Ordering
write_cmp one other = spot_cmp one other.key other.value

-- each write is below the next
abbrev pub AreApart : List Write → Type 0
AreApart writes = AllAdjacentBelow (λ one other. write_cmp one other ≡ Less) writes (length writes)

-- each write has one of so many keys
abbrev pub IsWithin : ℕ → Write → Type 0
IsWithin count write = write.key < count

-- the writes of the key of an index
abbrev pub of_key : ℕ → List Write → List Write
of_key k writes = filter (λ write. write.key == k) writes

-- how many of the writes each of so many keys has
pub record AreCounts (count : ℕ) (writes : List Write) (counts : List ℕ) : Type 0 where
  pub long : length counts ≡ count
  pub each : (k : ℕ) → k < count → slice_index_or counts k 0 ≡ length (of_key k writes)

-- a row for each of so many keys, with the writes of the key
pub record AreByKey (count : ℕ) (writes : List Write) (rows : List (List Write)) : Type 0 where
  pub long : length rows ≡ count
  pub each : (k : ℕ) → k < count → row_at rows k ≡ of_key k writes

-- the writes in order by key and value; those of one value at one key keep theirs
pub record SortsWrites (old new : List Write) : Type 0 where
  pub sorted : IsSorted write_cmp new
  pub stable : IsStable write_cmp old new
  pub permutation : IsPermutation old new

-- the writes of each row in order
pub record SortsRows (old new : List (List Write)) : Type 0 where
  pub long : length new ≡ length old
  pub each : (k : ℕ) → k < length old → SortsWrites (row_at old k) (row_at new k)

-- the writes of a transaction among these operations, in order
abbrev pub writes_from : List (List ℕ) → Numbered → List Op → List Op → List Write
writes_from keys n before [] = []
writes_from keys n before (Get key value ∷ after) = writes_from keys n (before ++ Get key value ∷ []) after
writes_from keys n before (Put key value ∷ after) =
    record { value = value; key = key_index keys key; writer = writer_at n before key after } ∷ writes_from keys n (before ++ Put key value ∷ []) after

abbrev pub writes_of : List (List ℕ) → Numbered → List Write
writes_of keys n = writes_from keys n [] n.stand.txn.ops

-- the writes of these transactions, in order
abbrev pub all_writes : List (List ℕ) → List Numbered → List Write
all_writes keys ns = flat_map (writes_of keys) ns

-- the table has the first writes of these transactions
abbrev pub AreFirstWriters : Writes → List Numbered → Type 0
AreFirstWriters table ns = (x : List ℕ) (v : ℕ) → table x v ≡ first_writer ns x v

-- each of these writes is the one that the table has for its value at its key
abbrev pub AreOwnIn : Writes → Numbered → List Op → List Op → Type 0
AreOwnIn table n before [] = Unit {0}
AreOwnIn table n before (Get key value ∷ after) = AreOwnIn table n (before ++ Get key value ∷ []) after
AreOwnIn table n before (Put key value ∷ after) =
    (table key value ≡ Some (writer_at n before key after)) × AreOwnIn table n (before ++ Put key value ∷ []) after

-- no value is written twice at a key in these transactions
abbrev pub AreOwn : Writes → List Numbered → Type 0
AreOwn table [] = Unit {0}
AreOwn table (n ∷ later) = AreOwnIn table n [] n.stand.txn.ops × AreOwn table later

abbrev pub is_in : Numbered → Writer → Bool
is_in n first = (first.session == n.stand.session) && (first.place == n.stand.place)

-- the judgement of a write at this position of its transaction
abbrev pub write_judgement : Numbered → ℕ → Option Writer → OpJudgement
write_judgement n position None = Faulty Duplicate
write_judgement n position (Some first) = if is_in n first && (first.op == position) then Silent else Faulty Duplicate

-- an operation at this position is not a write, or the one that the table has for its value at its key
abbrev pub IsOwn : Writes → Numbered → ℕ → Op → Type 0
IsOwn table n position (Get key value) = Unit {0}
IsOwn table n position (Put key value) = write_judgement n position (table key value) ≡ Silent

abbrev pub judgement_from : Numbered → Writer → Option ℕ → OpJudgement
judgement_from n first None = Faulty Aborted
judgement_from n first (Some number) =
    if is_in n first then Faulty Future else if first.last then ReadsFrom number else Faulty Intermediate

-- the judgement of an external read of a value other than 0
abbrev pub read_judgement : Numbered → Option Writer → OpJudgement
read_judgement n None = Faulty ThinAir
read_judgement n (Some first) = judgement_from n first first.number

-- the judgement of a read, by the latest own write of its key and the first write of its value
abbrev pub own_judgement : Numbered → ℕ → Option ℕ → Option Writer → OpJudgement
own_judgement n value (Some own) first = if own == value then Silent else Faulty BrokenInternal
own_judgement n value None first = if value == 0 then ReadsFrom 0 else read_judgement n first

abbrev pub op_judgement : Writes → Numbered → ℕ → Op → Option ℕ → OpJudgement
op_judgement table n position (Put key value) own = write_judgement n position (table key value)
op_judgement table n position (Get key value) own =
    if n.stand.txn.committed then own_judgement n value own (table key value) else Silent

abbrev pub site_judgement : Writes → Numbered → Site → OpJudgement
site_judgement table n site = op_judgement table n (at site) site.op (visible_write (op_key site.op) site.before)

-- the fault of an operation at this position of a transaction
abbrev pub fault_in : Stand → ℕ → Op → OpJudgement → Option ReadFault
fault_in stand position op (Faulty kind) =
    Some (record { session = stand.name; place = stand.place; op = position; key = op_key op; value = op_value op; kind = kind })
fault_in stand position op (ReadsFrom number) = None
fault_in stand position op Silent = None

-- the key and the source of an external read
abbrev pub source_in : Op → OpJudgement → Option (List ℕ × ℕ)
source_in op (Faulty kind) = None
source_in op (ReadsFrom number) = Some (op_key op, number)
source_in op Silent = None

-- the index of the key and the source of an external read of this key
abbrev pub read_in : ℕ → OpJudgement → Option (ℕ × ℕ)
read_in index (Faulty kind) = None
read_in index (ReadsFrom number) = Some (index, number)
read_in index Silent = None

abbrev pub fault_found : Writes → Numbered → Site → Option ReadFault
fault_found table n site = fault_in n.stand (at site) site.op (site_judgement table n site)

abbrev pub source_found : Writes → Numbered → Site → Option (List ℕ × ℕ)
source_found table n site = source_in site.op (site_judgement table n site)

-- the faults of a transaction
abbrev pub faults_found : Writes → Numbered → List ReadFault
faults_found table n = filter_map (fault_found table n) (sites_of n.stand)

-- the external reads of a transaction, as key and source
abbrev pub sources_found : Writes → Numbered → List (List ℕ × ℕ)
sources_found table n = filter_map (source_found table n) (sites_of n.stand)

abbrev pub entry_found : Writes → Numbered → Entry
entry_found table n = record {
  owner = n.stand.session;
  place = n.stand.place;
  writes = keys_written n.stand;
  reads = sorted_once pair_cmp (sources_found table n);
}

abbrev pub entries_found : Writes → List Numbered → List Entry
entries_found table ns = map (entry_found table) (filter (λ n. n.stand.txn.committed) ns)
