-- What a second pass over the operations traces, in terms of the table of first writes.
use Rattle.std.specs.Prelude.{ℕ, Bool, not, if◌then◌else◌, List, map, filter, filter_map, Option, None}
use Rattle.std.specs.BTreeSet.{BTreeSet, contains}
use Rattle.tcc_txn.specs.Transactions.{op_key, op_value}
use Rattle.tcc_reads.specs.History.{Entry}
use Rattle.tcc_reads.specs.Sites.{Site, sites_of}
use Rattle.tcc_reads.specs.Sources.{pair_cmp, sorted_once, writes_of as keys_written}
use Rattle.tcc_reads.specs.private.Numbers.{Numbered}
use Rattle.tcc_reads.specs.private.Verdicts.{Writes, source_found}

-- a key and a value that the set doesn't have
abbrev pub is_outside : BTreeSet (List ℕ × ℕ) → List ℕ × ℕ → Bool
is_outside set r = not (contains pair_cmp set r)

-- the key and the source of an external read of a key and a value that pass
abbrev pub source_traced : Writes → (List ℕ × ℕ → Bool) → Numbered → Site → Option (List ℕ × ℕ)
source_traced table passes n site = if passes (op_key site.op, op_value site.op) then source_found table n site else None

-- the external reads of a transaction that pass, as key and source
abbrev pub sources_traced : Writes → (List ℕ × ℕ → Bool) → Numbered → List (List ℕ × ℕ)
sources_traced table passes n = filter_map (source_traced table passes n) (sites_of n.stand)

abbrev pub entry_traced : Writes → (List ℕ × ℕ → Bool) → Numbered → Entry
entry_traced table passes n = record {
  owner = n.stand.session;
  place = n.stand.place;
  writes = keys_written n.stand;
  reads = sorted_once pair_cmp (sources_traced table passes n);
}

abbrev pub entries_traced : Writes → (List ℕ × ℕ → Bool) → List Numbered → List Entry
entries_traced table passes ns = map (entry_traced table passes) (filter (λ n. n.stand.txn.committed) ns)
