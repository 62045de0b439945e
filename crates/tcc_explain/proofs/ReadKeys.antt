-- The keys that the history of a snapshot reads are names where those of its operations are.
use Rattle.std.proofs.Common.{ℕ, ◌+◌, ◌==◌, Bool, true, false, cond, List, [], ◌∷◌, ◌++◌, map, get_or, All, Option, None, Some}
use Rattle.std.specs.Prelude.{filter, filter_map, is_none}
use Rattle.std.specs.List.{cons_option}
use Rattle.std.specs.FinMap.{entries}
use Rattle.std.specs.declared.cmp.Ordering.{Ordering}
use Rattle.std.proofs.lemmas.List.Elements.{All-nil, All-cons, All-head, All-tail, All-append, All-filter, All-map, All-get_or, All-contains}
use Rattle.std.proofs.lemmas.Map.Views.{All-insert_key}
use Rattle.tcc_txn.specs.Snapshots.{Sessions}
use Rattle.tcc_txn.specs.Transactions.{Transaction}
use Rattle.tcc_txn.specs.declared.op.Op.{Op}
use Rattle.tcc_txn.specs.declared.op.Op.TheVariants.{Get, Put}
use Rattle.tcc_reads.specs.History.{Entry, initial, entry_at}
use Rattle.tcc_reads.specs.Sites.{Stand, is_committed, stands_in, stands_from, stands, committed, Site, sites_from}
use Rattle.tcc_reads.specs.Sources.{external_part, external_read, external_reads, sorted_once, source, pair_cmp, reads_of, entry_of, history}
use Rattle.tcc_graph.specs.Relations.{IsReadsPair}
use Rattle.tcc_cert.specs.Texts.{IsKey}
use Rattle.tcc_explain.specs.Keys.{NamesKey, NamesKeys, HasNames}

-- a read of a key that is a name
abbrev IsNamedRead : List ℕ × ℕ → Type 0
IsNamedRead read = IsKey read.0

-- ---- transactions with their places (`Stand`)

in_session : (session : ℕ) (name : List ℕ) (from : ℕ) (txns : List Transaction) → All NamesKeys txns
    → All (λ (x : Stand). NamesKeys x.txn) (stands_in session name from txns)
in_session session name from [] named = All-nil (λ (x : Stand). NamesKeys x.txn)
in_session session name from (txn ∷ later) named =
    All-cons (λ (x : Stand). NamesKeys x.txn) _ (stands_in session name (from + 1) later)
    (All-head NamesKeys txn later named) (in_session session name (from + 1) later (All-tail NamesKeys txn later named))

abbrev AreNamed : List ℕ × List Transaction → Type 0
AreNamed named = All NamesKeys named.1

in_sessions : (session : ℕ) (named : List (List ℕ × List Transaction)) → All AreNamed named → All (λ (x : Stand). NamesKeys x.txn) (stands_from session named)
in_sessions session [] all = All-nil (λ (x : Stand). NamesKeys x.txn)
in_sessions session (e ∷ later) all =
    All-append (λ (x : Stand). NamesKeys x.txn) (stands_in session e.0 1 e.1) (stands_from (session + 1) later)
    (in_session session e.0 1 e.1 (All-head AreNamed e later all)) (in_sessions (session + 1) later (All-tail AreNamed e later all))

-- ---- the reads of a transaction

abbrev IfRead : Option (List ℕ × ℕ) → Type 0
IfRead None = Unit {0}
IfRead (Some read) = IsNamedRead read

part_named : (op : Op) (own : List ℕ → Option ℕ) → NamesKey op → IfRead (external_part op own)
part_named (Get key value) own named = go (is_none (own key))
  where
    go : (b : Bool) → IfRead (cond b (Some (key, value)) None)
    go true = named
    go false = tt
part_named (Put key value) own named = tt

filter_map_named : (stand : Stand) (before ops : List Op) → All NamesKey ops → All IsNamedRead (filter_map external_read (sites_from stand before ops))
filter_map_named stand before [] named = All-nil IsNamedRead
filter_map_named stand before (op ∷ after) named =
    go (external_read site) (part_named op _ (All-head NamesKey op after named))
    (filter_map_named stand (before ++ op ∷ []) after (All-tail NamesKey op after named))
  where
    site : Site
    site = record { stand = stand; before = before; op = op; after = after }

    rest : List (List ℕ × ℕ)
    rest = filter_map external_read (sites_from stand (before ++ op ∷ []) after)

    go : (o : Option (List ℕ × ℕ)) → IfRead o → All IsNamedRead rest → All IsNamedRead (cons_option o rest)
    go None here others = others
    go (Some read) here others = All-cons IsNamedRead read rest here others

-- a fact of all items, of the items sorted and each once
once : {K : Type 0} (cmp : K → K → Ordering) (P : K → Type 0) (xs : List K) → All P xs → All P (sorted_once cmp xs)
once cmp P [] all = All-nil P
once cmp P (x ∷ xs) all = All-insert_key cmp x P (sorted_once cmp xs) (once cmp P xs (All-tail P x xs all)) (All-head P x xs all)

reads_named : (all : List Stand) (stand : Stand) → NamesKeys stand.txn → All IsNamedRead (reads_of all stand)
reads_named all stand named =
    once pair_cmp IsNamedRead (map (λ r. (r.0, source all r.0 r.1)) (external_reads stand))
    (All-map IsNamedRead (λ r. (r.0, source all r.0 r.1)) (external_reads stand) (filter_map_named stand [] stand.txn.ops named))

-- ---- the history

abbrev ReadsNames : Entry → Type 0
ReadsNames e = All IsNamedRead e.reads

module _ (s : Sessions) (named : HasNames s) where
  entries_named : All ReadsNames (history s).entries
  entries_named =
      All-cons ReadsNames initial (map (entry_of (stands s)) (committed (stands s))) (All-nil IsNamedRead)
      (All-map ReadsNames (entry_of (stands s)) (committed (stands s))
      (All-filter is_committed (λ (x : Stand). ReadsNames (entry_of (stands s) x)) (stands s) all))
    where
      all : All (λ (x : Stand). ReadsNames (entry_of (stands s) x)) (stands s)
      all = λ i d l. reads_named (stands s) (get_or (stands s) i d) (in_sessions 0 (entries s) named i d l)

  -- what a transaction reads from another is a name
  pub key_named : (a b : ℕ) (x : List ℕ) → IsReadsPair (history s) a b x → IsKey x
  key_named a b x (from, to, there) =
      All-contains IsKey (map (λ read. read.0) (filter (λ read. read.1 == a) (entry_at (history s) b).reads)) x
      (All-map IsKey (λ read. read.0) (filter (λ read. read.1 == a) (entry_at (history s) b).reads)
      (All-filter (λ read. read.1 == a) IsNamedRead (entry_at (history s) b).reads (All-get_or ReadsNames (history s).entries b initial to entries_named)))
      there
