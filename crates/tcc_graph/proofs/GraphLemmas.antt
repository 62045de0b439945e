-- What the tables of a graph return.
use Rattle.std.proofs.Common.{ℕ, zero, suc, ◌+◌, ◌<◌, ◌≡◌, Bool, true, false, List, [], ◌∷◌, ◌++◌, length, refl, sym, ap, subst, ◌∙◌, arith, zero-add}
use Rattle.std.specs.Prelude.{All, filter, map, zip, ◌↔◌, ◌==◌, ◌||◌}
use Rattle.std.specs.List.{Contains, range_with_len}
use Rattle.std.specs.List.Sorted.{IsStrictlySortedBy}
use Rattle.std.proofs.lemmas.Bool.{lt-ltb}
use Rattle.std.proofs.lemmas.List.Elements.{All-contains, All-map, filter_passes}
use Rattle.std.proofs.lemmas.List.FromFn.{get_or-range_with_len, length-range_with_len}
use Rattle.tcc_txn.proofs.Lists as lists
use Rattle.tcc_txn.proofs.Lists.{found_number, number_found}
use Rattle.std.specs.Ordering.{nat_cmp}
use Rattle.tcc_reads.specs.History.{Entry, History, count, entry_at, initial}
use Rattle.tcc_reads.specs.Sources.{name_cmp}
use Rattle.tcc_graph.specs.Relations.{session_pair, causal_pair, has_items, reads_from, IsReadsPair, AreInOrder}
use Rattle.tcc_graph.specs.Keys.{has_name, keys, is_key, writes, writers, readers}
use Rattle.tcc_graph.specs.private.Grouped.{of_group, groups}
use Rattle.tcc_reads.specs.Indexed.{Indexed, indexed_of}
use Rattle.tcc_graph.specs.private.ReadTables.{over, values_from, HasReadsInOrder, AreIndexed, IsIndexTable}
use Rattle.tcc_graph.specs.KeyIndices.{IsAbsent, name_of}
use Rattle.tcc_graph.specs.Tables.{row_of}
use Rattle.tcc_graph.specs.private.KeyRows.{AreReaders, AreWriters, groups_of, marked, writes_key, reads_key}
use Rattle.tcc_graph.proofs.Ascending.{groups_sorted, values_sorted, indices_sorted, filtered_sorted}
use Rattle.tcc_graph.proofs.GroupedLemmas.{of_group-groups, zip-map, in_groups, from_groups}
use Rattle.tcc_graph.proofs.KeysLemmas.{has_name-keys, present, absent, no_readers}
use Rattle.tcc_graph.proofs.KeyTableLemmas.{filter_range-more, All-filter_range}
use Rattle.tcc_graph.proofs.NameLemmas.{has_name-contains, contains-has_name}
use Rattle.tcc_graph.proofs.IndexedLemmas.{stands_there, has_name-indices, values_from-named, values_within, values_in_groups}

pub has_items-map : {X Y : Type 0} (f : X → Y) (xs : List X) → has_items (map f xs) ≡ has_items xs
has_items-map f [] = refl
has_items-map f (x ∷ xs) = refl

-- if two transactions are not a session pair, a causal pair of them is one of reads
pub causal_at : (h : History) (a b : ℕ) → a < count h → b < count h → session_pair h a b ≡ false → (r : Bool) → r ≡ has_items (reads_from h a b)
    → r ≡ causal_pair h a b
causal_at h a b from to none r is = rw (none, lt-ltb a (count h) from, lt-ltb b (count h) to) is

module _ (entries : List Entry) (names : List (List ℕ)) (keyed : names ≡ keys (over entries)) (x : List ℕ) where
  no_key : IsAbsent names x → is_key (over entries) x ≡ false
  no_key none = sym (has_name-keys (over entries) x) ∙ rw (← keyed) (absent names x none)

  pub writers_absent : IsAbsent names x → [] ≡ writers (over entries) x
  writers_absent none = rw (no_key none) refl

  pub readers_absent : (a : ℕ) → IsAbsent names x → [] ≡ readers (over entries) a x
  readers_absent a none = sym (no_readers (over entries) x a (no_key none))

-- ---- what is kept of a range

in_filter : (p : ℕ → Bool) (n c : ℕ) → Contains (filter p (range_with_len 0 n)) c → (c < n) × (p c ≡ true)
in_filter p n c w = (
  All-contains (λ m. m < n) (filter p (range_with_len 0 n)) c (All-filter_range p n) w,
  All-contains (λ m. p m ≡ true) (filter p (range_with_len 0 n)) c (filter_passes p (range_with_len 0 n)) w,
)

to_filter : (p : ℕ → Bool) (n c : ℕ) → c < n → p c ≡ true → Contains (filter p (range_with_len 0 n)) c
to_filter p n c h t = lists.in_filter p (range_with_len 0 n) c (c, omega (arith, length-range_with_len 0 n), get_or-range_with_len 0 n c c h ∙ zero-add c) t

filter_same : (p q : ℕ → Bool) (n : ℕ) → ((b : ℕ) → b < n → p b ≡ q b) → filter p (range_with_len 0 n) ≡ filter q (range_with_len 0 n)
filter_same p q zero same = refl
filter_same p q (suc n) same =
    let next : suc n ≡ n + 1 = omega arith in
    ap (λ m. filter p (range_with_len 0 m)) next ∙ filter_range-more p n
    ∙ ap (λ xs. xs ++ marked (p n) n) (filter_same p q n (λ b h. same b (omega arith)))
    ∙ ap (λ b. filter q (range_with_len 0 n) ++ marked b n) (same n (omega arith))
    ∙ sym (filter_range-more q n) ∙ ap (λ m. filter q (range_with_len 0 m)) (sym next)

-- ---- by indices

module _ (entries : List Entry) (names : List (List ℕ)) (indexed : List Indexed) (sorted : IsStrictlySortedBy name_cmp names)
    (are : AreIndexed names entries indexed) where
  writes_same : (b k : ℕ) → b < length entries → k < length names → writes_key indexed k b ≡ writes (over entries) b (name_of names k)
  writes_same b k h i =
      let at = are.each b h in
      ap (λ z. (b == 0) || z) (sym (has_name-indices names sorted (indexed_of indexed b).writes k at.writes_within i)
      ∙ ap (λ ws. has_name ws (name_of names k)) at.writes)

  pub reads_same : (a b k : ℕ) → b < length entries → k < length names → reads_key indexed k a b ≡ has_name (reads_from (over entries) a b) (name_of names k)
  reads_same a b k h i =
      let at = are.each b h in
      sym (has_name-indices names sorted (values_from (indexed_of indexed b).reads a) k
      (values_within (length names) (indexed_of indexed b).reads a at.reads_within) i)
      ∙ ap (λ xs. has_name xs (name_of names k)) (sym (values_from-named names (indexed_of indexed b).reads a) ∙ ap (λ reads. values_from reads a) at.reads)

  -- the keys that a transaction reads from another are in order
  pub read_in_order : All HasReadsInOrder entries → (a b : ℕ) → b < length entries → IsStrictlySortedBy nat_cmp (values_from (indexed_of indexed b).reads a)
  read_in_order reads a b h =
      let at = are.each b h in
      indices_sorted names sorted (values_from (indexed_of indexed b).reads a) (values_within (length names) (indexed_of indexed b).reads a at.reads_within)
      (subst (IsStrictlySortedBy name_cmp) (ap (λ rs. values_from rs a) (sym at.reads) ∙ values_from-named names (indexed_of indexed b).reads a)
      (values_sorted (entry_at (over entries) b).reads a (reads b initial h)))

  -- the readings of a source, by indices
  module _ (table : List (List (ℕ × ℕ))) (tables : IsIndexTable (length entries) indexed (length entries) table) (a : ℕ) (from : a < length entries)
      (row : List (ℕ × ℕ)) (is : row ≡ row_of table a) where
    whole_row : row ≡ groups (λ b. values_from (indexed_of indexed b).reads a) (length entries)
    whole_row = is ∙ tables.rows a from

    pub indices_within : All (λ key_index. key_index < length names) (map (λ p. p.1) row)
    indices_within = rw whole_row (All-map (λ key_index. key_index < length names) (λ p. p.1) (groups (λ b. values_from (indexed_of indexed b).reads a) (length entries))
        (values_in_groups (λ key_index. key_index < length names) (λ b. values_from (indexed_of indexed b).reads a) (length entries)
        (λ b h. values_within (length names) (indexed_of indexed b).reads a (are.each b h).reads_within)))

    pub indices_order : All HasReadsInOrder entries → AreInOrder nat_cmp (map (λ p. p.0) row) (map (λ p. p.1) row)
    indices_order reads =
        rw (zip-map row, whole_row) (groups_sorted nat_cmp (λ b. values_from (indexed_of indexed b).reads a) (length entries) (read_in_order reads a))

    pub index_readings : (c k : ℕ) → Contains (zip (map (λ p. p.0) row) (map (λ p. p.1) row)) (c, k) ↔
        ((k < length names) × IsReadsPair (over entries) a c (name_of names k))
    index_readings c k = rw (zip-map row, whole_row) (
      λ h.
          let w = from_groups (λ b. values_from (indexed_of indexed b).reads a) (length entries) c k h in
          let at = are.each c w.0 in
          let below =
          All-contains (λ j. j < length names) (values_from (indexed_of indexed c).reads a) k
          (values_within (length names) (indexed_of indexed c).reads a at.reads_within) w.1 in (
            below,
            (
              from,
              w.0,
              has_name-contains (reads_from (over entries) a c) (name_of names k)
                  (sym (reads_same a c k w.0 below) ∙ number_found (values_from (indexed_of indexed c).reads a) k w.1),
            ),
          ),
      λ p. in_groups (λ b. values_from (indexed_of indexed b).reads a) (length entries) c k p.1.1
          (found_number (values_from (indexed_of indexed c).reads a) k
          (reads_same a c k p.1.1 p.0 ∙ contains-has_name (reads_from (over entries) a c) (name_of names k) p.1.2)),
    )

    module _ (b : ℕ) (to : b < length entries) where
      group_row : of_group row b ≡ values_from (indexed_of indexed b).reads a
      group_row = ap (λ grouped. of_group grouped b) whole_row ∙ of_group-groups (λ c. values_from (indexed_of indexed c).reads a) (length entries) b to

      pub names_from : map (name_of names) (of_group row b) ≡ reads_from (over entries) a b
      names_from =
          let at = are.each b to in
          ap (map (name_of names)) group_row ∙ sym (values_from-named names (indexed_of indexed b).reads a) ∙ ap (λ reads. values_from reads a) at.reads

      pub from_within : All (λ key_index. key_index < length names) (of_group row b)
      from_within = rw group_row (values_within (length names) (indexed_of indexed b).reads a (are.each b to).reads_within)

  -- the writers of a key
  pub writers_here : {X : Type 0} (rows : List (List (ℕ × X))) → AreWriters indexed (length names) (length entries) rows → names ≡ keys (over entries)
      → (k : ℕ) → k < length names → groups_of rows k ≡ writers (over entries) (name_of names k)
  writers_here rows tables keyed k within =
      let key : is_key (over entries) (name_of names k) ≡ true =
      sym (has_name-keys (over entries) (name_of names k)) ∙ rw (← keyed) (present names (name_of names k) k (stands_there names sorted k within)) in
      rw key (tables.each k within
      ∙ filter_same (writes_key indexed k) (λ b. writes (over entries) b (name_of names k)) (length entries) (λ b h. writes_same b k h within))

  -- the readers of a key
  module _ (rows : List (List (ℕ × ℕ))) (tables : AreReaders indexed (length names) rows) (k : ℕ) (within : k < length names) where
    whole_readers : row_of rows k ≡ groups (λ a. filter (reads_key indexed k a) (range_with_len 0 (length entries))) (length entries)
    whole_readers =
        tables.each k within
        ∙ ap (λ n. groups (λ a. filter (reads_key indexed k a) (range_with_len 0 n)) n) are.long

    pub readers_here : (a : ℕ) → a < length entries → of_group (row_of rows k) a ≡ readers (over entries) a (name_of names k)
    readers_here a from =
        ap (λ grouped. of_group grouped a) whole_readers
        ∙ of_group-groups (λ s. filter (reads_key indexed k s) (range_with_len 0 (length entries))) (length entries) a from
        ∙ filter_same (reads_key indexed k a) (λ b. has_name (reads_from (over entries) a b) (name_of names k)) (length entries)
        (λ b h. reads_same a b k h within)

    pub key_order : AreInOrder nat_cmp (map (λ p. p.0) (row_of rows k)) (map (λ p. p.1) (row_of rows k))
    key_order =
        rw (zip-map (row_of rows k), whole_readers) (groups_sorted nat_cmp (λ s. filter (reads_key indexed k s) (range_with_len 0 (length entries))) (length entries)
        (λ s h. filtered_sorted (reads_key indexed k s) (length entries)))

    pub key_readings : (a c : ℕ) → Contains (zip (map (λ p. p.0) (row_of rows k)) (map (λ p. p.1) (row_of rows k))) (a, c) ↔ IsReadsPair (over entries) a c
        (name_of names k)
    key_readings a c = rw (zip-map (row_of rows k), whole_readers) (
      λ h.
          let w = from_groups (λ s. filter (reads_key indexed k s) (range_with_len 0 (length entries))) (length entries) a c h in
          let v = in_filter (reads_key indexed k a) (length entries) c w.1 in
          (w.0, v.0, has_name-contains (reads_from (over entries) a c) (name_of names k) (sym (reads_same a c k v.0 within) ∙ v.1)),
      λ p. in_groups (λ s. filter (reads_key indexed k s) (range_with_len 0 (length entries))) (length entries) a c p.0
          (to_filter (reads_key indexed k a) (length entries) c p.1
          (reads_same a c k p.1 within ∙ contains-has_name (reads_from (over entries) a c) (name_of names k) p.2)),
    )
