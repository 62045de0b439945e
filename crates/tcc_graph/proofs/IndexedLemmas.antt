-- What the indices of keys say about their names.
use Rattle.std.proofs.Common.{ℕ, zero, suc, ◌<◌, ◌≡◌, ◌⊎◌, Bool, true, false, List, [], ◌∷◌}
use Rattle.std.proofs.Common.{length, get_or, refl, sym, ap, ◌∙◌, arith, inl, inr}
use Rattle.std.specs.Prelude.{All, map, ◌==◌, ◌||◌, bytes_eq}
use Rattle.std.specs.List.{list_any}
use Rattle.std.specs.List.Sorted.{IsStrictlySortedBy}
use Rattle.std.proofs.lemmas.Bool.{cases_eq, ne_eqb, eq-eqb}
use Rattle.std.proofs.Math.ListN as math
use Rattle.std.proofs.lemmas.List.{get_or_default, get_or-map, length-map, same_lists}
use Rattle.std.proofs.lemmas.List.Elements.{All-append, All-map, All-contains, Contains-append_right}
use Rattle.std.proofs.lemmas.List.Folds.{list_any_at}
use Rattle.tcc_reads.specs.History.{Entry, initial, owner, place}
use Rattle.tcc_reads.specs.Sources.{name_cmp}
use Rattle.tcc_graph.specs.Keys.{has_name, keys, keys_of}
use Rattle.tcc_graph.specs.private.Grouped.{as_group, groups}
use Rattle.tcc_graph.specs.KeyIndices.{name_of, StandsAt}
use Rattle.tcc_reads.specs.Indexed.{Indexed, named, entry_of, entries_of, indexed_of, unindexed}
use Rattle.tcc_graph.specs.private.ReadTables.{over, values_from, history_of, IsIndexed, AreIndexed, IsIndexTable, HasSources}
use Rattle.tcc_graph.proofs.NameLemmas.{bytes_eq-same, bytes_eq-other, indices_differ, contains-has_name}
use Rattle.tcc_graph.proofs.KeysLemmas.{has_name-keys}

module _ (names : List (List ℕ)) (sorted : IsStrictlySortedBy name_cmp names) where
  -- names are equal exactly if their indices are
  pub same_index : (j k : ℕ) → j < length names → k < length names → bytes_eq (name_of names k) (name_of names j) ≡ (j == k)
  same_index j k h i = elim (cases_eq j k) [
    | inl e ↦ rw (e, eq-eqb k k refl) (bytes_eq-same (name_of names k) (name_of names k) refl)
    | inr ne ↦ rw (ne_eqb j k ne) (bytes_eq-other (name_of names k) (name_of names j) (λ same. indices_differ names j k sorted h i ne (sym same)))
  ]

  pub one_index : (j k : ℕ) → j < length names → k < length names → name_of names j ≡ name_of names k → j ≡ k
  one_index j k h i same = go (cases_eq j k)
    where
      go : (j ≡ k) ⊎ (j ≡ k → ⊥) → j ≡ k
      go (inl e) = e
      go (inr ne) = absurd (indices_differ names j k sorted h i ne same)

  pub stands_there : (k : ℕ) → k < length names → StandsAt names (name_of names k) k
  stands_there k h = record { within = h; only = λ j i. bytes_other j i; here = refl }
    where
      bytes_other : (j : ℕ) → j < length names → bytes_eq (name_of names j) (name_of names k) ≡ (j == k)
      bytes_other j i = elim (cases_eq j k) [
        | inl e ↦ rw (e, eq-eqb k k refl) (bytes_eq-same (name_of names k) (name_of names k) refl)
        | inr ne ↦ rw (ne_eqb j k ne) (bytes_eq-other (name_of names j) (name_of names k) (λ same. indices_differ names j k sorted i h ne same))
      ]

  -- a name is among those at the indices exactly if its own index is among them
  pub has_name-indices : (indices : List ℕ) (k : ℕ) → All (λ j. j < length names) indices → k < length names
      → has_name (map (name_of names) indices) (name_of names k) ≡ list_any (λ j. j == k) indices
  has_name-indices [] k all h = refl
  has_name-indices (j ∷ indices) k all h =
      rw (same_index j k (all 0 j (omega arith)) h) (ap (λ b. (j == k) || b) (has_name-indices indices k (λ i d l. all (suc i) d (omega arith)) h))

-- what is read from a, by names, follows from the indices
pub values_from-named : (names : List (List ℕ)) (reads : List (ℕ × ℕ)) (a : ℕ) → values_from (named names reads) a ≡ map (name_of names) (values_from reads a)
values_from-named names [] a = refl
values_from-named names (read ∷ reads) a = go (read.1 == a) refl (values_from-named names reads a)
  where
    go : (b : Bool) → (read.1 == a) ≡ b → values_from (named names reads) a ≡ map (name_of names) (values_from reads a)
        → values_from (named names (read ∷ reads)) a ≡ map (name_of names) (values_from (read ∷ reads) a)
    go true e rest = rw e (ap (λ z. name_of names read.0 ∷ z) rest)
    go false e rest = rw e rest

pub values_within : (n : ℕ) (reads : List (ℕ × ℕ)) (a : ℕ) → All (λ read. read.0 < n) reads → All (λ j. j < n) (values_from reads a)
values_within n [] a all = λ k d h. absurd (omega arith)
values_within n (read ∷ reads) a all = go (read.1 == a) refl (values_within n reads a (λ i d l. all (suc i) d (omega arith)))
  where
    go : (b : Bool) → (read.1 == a) ≡ b → All (λ j. j < n) (values_from reads a) → All (λ j. j < n) (values_from (read ∷ reads) a)
    go true e rest = rw e (λ k d h. here k d h rest)
      where
        here : (k : ℕ) (d : ℕ) → k < length (read.0 ∷ values_from reads a) → All (λ j. j < n) (values_from reads a)
            → get_or (read.0 ∷ values_from reads a) k d < n
        here zero d h rest = all 0 read (omega arith)
        here (suc k) d h rest = rest k d (omega arith)
    go false e rest = rw e rest

-- if each of some reads by indices has its source below n, so has each by names, and conversely
pub sources_named : (names : List (List ℕ)) (n : ℕ) (reads : List (ℕ × ℕ)) → All (λ read. read.1 < n) (named names reads) → All (λ read. read.1 < n) reads
sources_named names n [] all = λ k d h. absurd (omega arith)
sources_named names n (read ∷ reads) all =
    both (sources_named names n reads (λ i e l. all (suc i) e (omega arith))) (all 0 (name_of names read.0, read.1) (omega arith))
  where
    both : All (λ (r : ℕ × ℕ). r.1 < n) reads → read.1 < n → All (λ (r : ℕ × ℕ). r.1 < n) (read ∷ reads)
    both rest here = λ k d h. item k d h rest here
      where
        item : (k : ℕ) (d : ℕ × ℕ) → k < length (read ∷ reads) → All (λ (r : ℕ × ℕ). r.1 < n) reads → read.1 < n → (get_or (read ∷ reads) k d).1 < n
        item zero d h rest here = here
        item (suc k) d h rest here = rest k d (omega arith)

-- what holds for the values of each group holds for all
pub values_in_groups : (P : ℕ → Type 0) (values : ℕ → List ℕ) (m : ℕ) → ((b : ℕ) → b < m → All P (values b)) → All (λ p. P p.1) (groups values m)
values_in_groups P values zero all = λ k d h. absurd (omega arith)
values_in_groups P values (suc m) all =
    All-append (λ p. P p.1) (groups values m) (as_group m (values m)) (values_in_groups P values m (λ b h. all b (omega arith)))
    (All-map (λ p. P p.1) (λ x. (m, x)) (values m) (all m (omega arith)))

-- the indices in the table are below those of the reads
pub table_within : (indexed : List Indexed) (n : ℕ) → All (λ p. All (λ read. read.0 < n) p.reads) indexed → (table : List (List (ℕ × ℕ)))
    → IsIndexTable (length indexed) indexed (length indexed) table → All (λ row. All (λ p. p.1 < n) row) table
table_within indexed n within table tables a d h =
    rw (get_or_default table a d [] h, tables.rows a (omega (arith, h, tables.long))) (values_in_groups (λ j. j < n) (λ b. values_from (indexed_of indexed b).reads a) (length indexed)
    (λ b h. values_within n (indexed_of indexed b).reads a (within b _ h)))

-- what holds for all keys of a transaction holds for those that it reads
pub keys_read : (P : List ℕ → Type 0) (e : Entry) → All P (keys_of e) → All (λ read. P read.0) e.reads
keys_read P e all k d h =
    All-contains P (keys_of e) (get_or e.reads k d).0 all
    (Contains-append_right e.writes (map (λ read. read.0) e.reads) (get_or e.reads k d).0
    (k, omega (arith, length-map e.reads (λ read. read.0)), get_or-map (λ read. read.0) e.reads k d (get_or e.reads k d).0 h))

-- ---- all transactions

pub count_is : (names : List (List ℕ)) (indexed : List Indexed) → length (entries_of names indexed) ≡ length indexed
count_is names indexed = length-map indexed (entry_of names)

-- the transaction of a number, by the names of its keys
pub entry_is : (names : List (List ℕ)) (indexed : List Indexed) (n : ℕ) → get_or (entries_of names indexed) n initial ≡ entry_of names (indexed_of indexed n)
entry_is names indexed n = math.get_or-map (entry_of names) indexed n unindexed

pub owner_is : (sessions names : List (List ℕ)) (indexed : List Indexed) (n : ℕ) → owner (history_of sessions names indexed) n ≡ (indexed_of indexed n).owner
owner_is sessions names indexed n = ap (λ (e : Entry). e.owner) (entry_is names indexed n)

pub place_is : (sessions names : List (List ℕ)) (indexed : List Indexed) (n : ℕ) → place (history_of sessions names indexed) n ≡ (indexed_of indexed n).place
place_is sessions names indexed n = ap (λ (e : Entry). e.place) (entry_is names indexed n)

-- the indexed transactions, by their names again
pub names_again : (names : List (List ℕ)) (entries : List Entry) (indexed : List Indexed) → AreIndexed names entries indexed → entries_of names indexed ≡ entries
names_again names entries indexed are = same_lists (entries_of names indexed) entries long (λ n d inside.
    let below : n < length entries = omega (arith, inside, long) in
    let at = are.each n below in
    get_or_default (entries_of names indexed) n d initial inside ∙ entry_is names indexed n ∙ whole (indexed_of indexed n) (get_or entries n initial) at
    ∙ get_or_default entries n initial d below)
  where
    long : length (entries_of names indexed) ≡ length entries
    long = length-map indexed (entry_of names) ∙ are.long

    whole : (p : Indexed) (e : Entry) → IsIndexed names e p → entry_of names p ≡ e
    whole p e at = go e at.owner at.place at.writes at.reads
      where
        go : (e : Entry) → p.owner ≡ e.owner → p.place ≡ e.place → map (name_of names) p.writes ≡ e.writes → named names p.reads ≡ e.reads → entry_of names p ≡ e
        go e owner place writes reads = rw (owner, place, writes, reads) refl

module _ (names : List (List ℕ)) (entries : List Entry) (indexed : List Indexed) (are : AreIndexed names entries indexed) where
  -- indices of written keys are below the count of names
  pub writes_within : All (λ p. All (λ k. k < length names) p.writes) indexed
  writes_within n d h = rw (get_or_default indexed n d unindexed h) ((are.each n (omega (arith, are.long))).writes_within)

  -- indices of read keys are below the count of names
  pub reads_within : All (λ p. All (λ read. read.0 < length names) p.reads) indexed
  reads_within n d h = rw (get_or_default indexed n d unindexed h) ((are.each n (omega (arith, are.long))).reads_within)

  module _ (sources : All (HasSources (length entries)) entries) where
    from_sources : (n : ℕ) → n < length entries → All (λ read. read.1 < length entries) (indexed_of indexed n).reads
    from_sources n h = sources_named names (length entries) (indexed_of indexed n).reads (rw (are.each n h).reads (sources n initial h))

    pub indexed_sources : All (λ p. All (λ read. read.1 < length indexed) p.reads) indexed
    indexed_sources n d h = rw (get_or_default indexed n d unindexed h, are.long) (from_sources n (omega (arith, are.long)))

    pub reads_below : (c : ℕ) → c < length entries → All (λ read. (read.0 < length names) × (read.1 < length entries)) (indexed_of indexed c).reads
    reads_below c h = λ k d l. ((are.each c h).reads_within k d l, from_sources c h k d l)

-- the keys of each transaction are among the history's
pub all_keyed : (entries : List Entry) → All (λ e. All (λ x. has_name (keys (over entries)) x ≡ true) (keys_of e)) entries
all_keyed entries n d h k x l =
    has_name-keys (over entries) _
    ∙ list_any_at (λ e. has_name (keys_of e) (get_or (keys_of (get_or entries n d)) k x)) entries n d h
    (contains-has_name (keys_of (get_or entries n d)) _ (k, l, get_or_default (keys_of (get_or entries n d)) k _ x l))
