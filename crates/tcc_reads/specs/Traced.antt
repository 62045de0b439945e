-- What can be traced of a snapshot some of whose operations are faulty.
use Rattle.std.specs.Prelude.{ℕ, Bool, true, false, not, ◌&&◌, ◌==◌, if◌then◌else◌, List, ◌∷◌, map, filter, filter_map, Option, None, is_none}
use Rattle.std.specs.List.{list_any}
use Rattle.std.specs.FinMap.{entries}
use Rattle.std.specs.Str.{bytes_eq}
use Rattle.tcc_txn.specs.Snapshots.{Sessions}
use Rattle.tcc_reads.specs.declared.fault.ReadFault.{ReadFault}
use Rattle.tcc_reads.specs.declared.fault.ReadFaultKind.{ReadFaultKind}
use Rattle.tcc_reads.specs.declared.fault.ReadFaultKind.TheVariants.{Duplicate, BrokenInternal, ThinAir, Aborted, Intermediate, Future}
use Rattle.tcc_reads.specs.History.{Entry, History, initial}
use Rattle.tcc_reads.specs.Sites.{Stand, stands, committed, Site, sites_of}
use Rattle.tcc_reads.specs.Sources.{external_read, source, sorted_once, pair_cmp, writes_of}
use Rattle.tcc_reads.specs.Faults.{fault_at, faults_of}

abbrev pub is_duplicate : ReadFaultKind → Bool
is_duplicate Duplicate = true
is_duplicate BrokenInternal = false
is_duplicate ThinAir = false
is_duplicate Aborted = false
is_duplicate Intermediate = false
is_duplicate Future = false

-- whether a fault is that this value was written at this key before
abbrev pub is_rewrite : List ℕ → ℕ → ReadFault → Bool
is_rewrite x v fault = is_duplicate fault.kind && (bytes_eq fault.key x && (fault.value == v))

-- whether a value was written at a key once, by the faults
abbrev pub is_unique : List ReadFault → List ℕ × ℕ → Bool
is_unique faults r = not (list_any (is_rewrite r.0 r.1) faults)

-- an external read without a fault, as key and value
abbrev pub sound_read : List Stand → Site → Option (List ℕ × ℕ)
sound_read all site = if is_none (fault_at all site) then external_read site else None

-- the external reads of a transaction that can be traced: they have no fault, and their values were written once
abbrev pub traced_reads : List Stand → Stand → List (List ℕ × ℕ)
traced_reads all stand = filter (is_unique (faults_of all)) (filter_map (sound_read all) (sites_of stand))

-- a committed transaction, as the graph sees it; but only reads that can be traced have a source
abbrev pub traced_entry : List Stand → Stand → Entry
traced_entry all stand = record {
  owner = stand.session;
  place = stand.place;
  writes = writes_of stand;
  reads = sorted_once pair_cmp (map (λ r. (r.0, source all r.0 r.1)) (traced_reads all stand));
}

-- the history of a snapshot without the reads that can't be traced
abbrev pub traced_history : Sessions → History
traced_history s = record {
  sessions = map (λ named. named.0) (entries s);
  entries = initial ∷ map (traced_entry (stands s)) (committed (stands s));
}
