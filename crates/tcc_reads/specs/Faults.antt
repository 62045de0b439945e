-- The faults of reads and writes: operations that no source explains.
use Rattle.std.specs.Prelude.{ℕ, Bool, false, not, ◌&&◌, ◌==◌, if◌then◌else◌, List, find, filter_map, Option, None, Some, option_map}
use Rattle.std.specs.List.{list_any}
use Rattle.std.specs.Str.{bytes_eq}
use Rattle.tcc_txn.specs.Snapshots.{Sessions}
use Rattle.tcc_txn.specs.Transactions.{op_key, op_value}
use Rattle.tcc_txn.specs.declared.op.Op.{Op}
use Rattle.tcc_txn.specs.declared.op.Op.TheVariants.{Get, Put}
use Rattle.tcc_reads.specs.declared.fault.ReadFault.{ReadFault}
use Rattle.tcc_reads.specs.declared.fault.ReadFaultKind.{ReadFaultKind}
use Rattle.tcc_reads.specs.declared.fault.ReadFaultKind.TheVariants.{Duplicate, BrokenInternal, ThinAir, Aborted, Intermediate, Future}
use Rattle.tcc_reads.specs.Sites.{Stand, stands, Site, at, sites}
use Rattle.tcc_reads.specs.Sources.{puts_at, visible_write}

-- whether an operation writes this value at this key
abbrev pub puts : List ℕ → ℕ → Op → Bool
puts x v (Get key value) = false
puts x v (Put key value) = bytes_eq key x && (value == v)

-- the writer of a value at a key: the first write of it, by session, place and operation
abbrev pub writer : List Stand → List ℕ → ℕ → Option Site
writer all x v = find (λ site. puts x v site.op) (sites all)

abbrev pub is_same_transaction : Stand → Stand → Bool
is_same_transaction a b = (a.session == b.session) && (a.place == b.place)

-- the two operations are the same
abbrev pub is_same_site : Site → Site → Bool
is_same_site a b = is_same_transaction a.stand b.stand && (at a == at b)

-- whether no later operation of its transaction writes the key of this one
abbrev pub is_last_at_key : Site → Bool
is_last_at_key write = not (list_any (puts_at (op_key write.op)) write.after)

-- the fault of a write, by the writer of its value
abbrev pub write_kind : Site → Option Site → Option ReadFaultKind
write_kind write None = Some Duplicate
write_kind write (Some first) = if is_same_site first write then None else Some Duplicate

-- the fault of an external read of a value other than 0, by the writer of the value
abbrev pub external_kind : Site → Option Site → Option ReadFaultKind
external_kind read None = Some ThinAir
external_kind read (Some first) =
    if not first.stand.txn.committed then Some Aborted
    else if is_same_transaction first.stand read.stand then Some Future
    else if is_last_at_key first then None
    else Some Intermediate

-- the fault of a read of this value in a committed transaction, by the latest own write of its key
abbrev pub read_kind : List Stand → Site → List ℕ → ℕ → Option ℕ → Option ReadFaultKind
read_kind all read key value (Some own) = if own == value then None else Some BrokenInternal
read_kind all read key value None = if value == 0 then None else external_kind read (writer all key value)

abbrev pub kind_at : List Stand → Site → Op → Option ReadFaultKind
kind_at all site (Put key value) = write_kind site (writer all key value)
kind_at all site (Get key value) =
    if site.stand.txn.committed then read_kind all site key value (visible_write key site.before) else None

-- what is wrong with an operation
abbrev pub fault_at : List Stand → Site → Option ReadFault
fault_at all site =
    option_map (λ kind. record {
      session = site.stand.name;
      place = site.stand.place;
      op = at site;
      key = op_key site.op;
      value = op_value site.op;
      kind = kind;
    })
    (kind_at all site site.op)

abbrev pub faults_of : List Stand → List ReadFault
faults_of all = filter_map (fault_at all) (sites all)

-- all faults of a snapshot, by session name in byte order, place and operation
abbrev pub read_faults : Sessions → List ReadFault
read_faults s = faults_of (stands s)
