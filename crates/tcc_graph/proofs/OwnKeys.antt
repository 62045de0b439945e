-- Names in order, each written or read by a history's transactions, are its keys.
use Rattle.std.proofs.Common.{ℕ, ◌<◌, ◌≡◌, ◌⊎◌, Bool, true, false, ◌||◌, List, [], ◌∷◌, ◌++◌, length, get_or, refl, sym, ap, subst, ◌∙◌, arith, inl, inr}
use Rattle.std.proofs.Common.{length-append, replicate, set}
use Rattle.std.specs.Prelude.{All, map, bytes_eq}
use Rattle.std.specs.List.{list_any}
use Rattle.std.specs.List.Sorted.{IsStrictlySortedBy}
use Rattle.std.specs.Ordering.{eq_by_cmp}
use Rattle.std.proofs.lemmas.Bool.{cases_eq, or_cases, false≢true}
use Rattle.std.proofs.lemmas.Cmp.{nat_list_cmp_total}
use Rattle.std.proofs.lemmas.List.{get_or_default, get_or_append_left, get_or-map, get_or-replicate, get_or-set_other, length-map, length-replicate, length-set}
use Rattle.std.proofs.lemmas.List.Elements.{All-append, All-contains, All-head, All-map, All-tail}
use Rattle.std.proofs.lemmas.List.Folds.{list_any_at}
use Rattle.std.proofs.lemmas.Map.Lookups.{btree_set_from_contains, exact_bytes}
use Rattle.tcc_reads.specs.History.{Entry}
use Rattle.tcc_reads.specs.Indexed.{Indexed, IsWithin, entry_of, entries_of, named, indexed_of, unindexed}
use Rattle.tcc_reads.specs.Sources.{name_cmp}
use Rattle.tcc_reads.proofs.Ties.{names_tie}
use Rattle.tcc_graph.specs.KeyIndices.{name_of}
use Rattle.tcc_graph.specs.Keys.{has_name, keys, keys_of}
use Rattle.tcc_graph.specs.private.ReadTables.{over, AreIndexed, IsIndexed, MarksOnly, UsesOnly}
use Rattle.tcc_graph.proofs.IndexedLemmas.{all_keyed, entry_is, keys_read}
use Rattle.tcc_graph.proofs.KeysLemmas.{has_name-keys}
use Rattle.tcc_graph.proofs.NameLemmas.{bytes_eq-same, has_name-contains}
use Rattle.tcc_graph.proofs.SortedKeys.{keys_sorted}
use Rattle.tcc_graph.specs.private.Marks.{is_marked, kept_of, moved_by, ranks_from}
use Rattle.tcc_graph.proofs.KeptKeys.{all_kept, kept_sorted, moved_same, moved_within}

-- what holds for the image of each item holds for each item through the function
unmapped : {X Y : Type 0} (f : X → Y) (P : Y → Type 0) (xs : List X) → All P (map f xs) → All (λ x. P (f x)) xs
unmapped f P xs all k d h = subst P (get_or-map f xs k d (f d) h) (all k (f d) (omega (arith, h, length-map xs f)))

in_front : {X : Type 0} (P : X → Type 0) (xs ys : List X) → All P (xs ++ ys) → All P xs
in_front P xs ys all k d h = subst P (get_or_append_left xs ys d k h) (all k d (omega (arith, h, length-append xs ys)))

-- ---- names in order

ties_alike : (xs : List (List ℕ)) (x : List ℕ) → list_any (eq_by_cmp name_cmp x) xs ≡ has_name xs x
ties_alike [] x = refl
ties_alike (y ∷ xs) x = λ i. names_tie x y i || ties_alike xs x i

same_names : (xs ys : List (List ℕ)) → IsStrictlySortedBy name_cmp xs → IsStrictlySortedBy name_cmp ys → ((x : List ℕ) → has_name xs x ≡ has_name ys x) → xs ≡ ys
same_names xs ys one other same =
    btree_set_from_contains nat_list_cmp_total (record { keys = xs }) (record { keys = ys }) one other
    (λ x. ties_alike xs x ∙ same x ∙ sym (ties_alike ys x)) exact_bytes

alike : (a b : Bool) → (a ≡ true → b ≡ true) → (b ≡ true → a ≡ true) → a ≡ b
alike true b there back = sym (there refl)
alike false true there back = back refl
alike false false there back = refl

module _ (names : List (List ℕ)) where
  stands : (k : ℕ) → k < length names → has_name names (name_of names k) ≡ true
  stands k h = list_any_at (bytes_eq (name_of names k)) names k [] h (bytes_eq-same (name_of names k) (name_of names k) refl)

  -- the keys of a transaction are among the names
  keys_inside : (p : Indexed) → IsWithin (length names) p → All (λ x. has_name names x ≡ true) (keys_of (entry_of names p))
  keys_inside p within =
      let P : List ℕ → Type 0 = λ x. has_name names x ≡ true in
      All-append P (map (name_of names) p.writes) (map (λ read. read.0) (named names p.reads))
      (All-map P (name_of names) p.writes (λ k d h. stands (get_or p.writes k d) (within.writes k d h)))
      (All-map P (λ (read : List ℕ × ℕ). read.0) (named names p.reads)
      (All-map (λ (read : List ℕ × ℕ). P read.0) (λ (read : ℕ × ℕ). (name_of names read.0, read.1)) p.reads
      (λ k d h. stands (get_or p.reads k d).0 (within.reads k d h))))

  any_inside : (ps : List Indexed) → All (IsWithin (length names)) ps → (x : List ℕ) → list_any (λ e. has_name (keys_of e) x) (entries_of names ps) ≡ true
      → has_name names x ≡ true
  any_inside [] within x here = absurd (false≢true here)
  any_inside (p ∷ ps) within x here =
      go (or_cases (has_name (keys_of (entry_of names p)) x) (list_any (λ e. has_name (keys_of e) x) (entries_of names ps)) here)
      (any_inside ps (All-tail (IsWithin (length names)) p ps within) x)
    where
      go : (has_name (keys_of (entry_of names p)) x ≡ true) ⊎ (list_any (λ e. has_name (keys_of e) x) (entries_of names ps) ≡ true)
          → (list_any (λ e. has_name (keys_of e) x) (entries_of names ps) ≡ true → has_name names x ≡ true) → has_name names x ≡ true
      go (inl first) rest =
          All-contains (λ y. has_name names y ≡ true) (keys_of (entry_of names p)) x
          (keys_inside p (All-head (IsWithin (length names)) p ps within)) (has_name-contains (keys_of (entry_of names p)) x first)
      go (inr later) rest = rest later

  module _ (ps : List Indexed) (within : All (IsWithin (length names)) ps) where
    abbrev entries : List Entry
    entries = entries_of names ps

    -- whether the name at an index is a key
    abbrev pub is_own : ℕ → Bool
    is_own k = has_name (keys (over entries)) (name_of names k)

    pub only_own : All (UsesOnly is_own) ps
    only_own n d h =
        let P : List ℕ → Type 0 = λ x. has_name (keys (over entries)) x ≡ true in
        let p : Indexed = get_or ps n d in
        let there = all_keyed entries n (entry_of names d) (omega (arith, h, length-map ps (entry_of names))) in
        let here : All P (keys_of (entry_of names p)) = subst (λ (e : Entry). All P (keys_of e)) (get_or-map (entry_of names) ps n d (entry_of names d) h) there in
        record {
          writes = unmapped (name_of names) P p.writes (in_front P (map (name_of names) p.writes) (map (λ read. read.0) (named names p.reads)) here);
          reads = unmapped (λ (read : ℕ × ℕ). (name_of names read.0, read.1)) (λ (read : List ℕ × ℕ). P read.0) p.reads (keys_read P (entry_of names p) here);
        }

    pub own_names : IsStrictlySortedBy name_cmp names → ((k : ℕ) → k < length names → is_own k ≡ true) → names ≡ keys (over entries)
    own_names sorted each =
        same_names names (keys (over entries)) sorted (keys_sorted (over entries)) (λ x. alike (has_name names x) (has_name (keys (over entries)) x)
        (λ here.
        let w = has_name-contains names x here in
        subst (λ (y : List ℕ). has_name (keys (over entries)) y ≡ true) (get_or_default names w.0 [] x w.1 ∙ w.2) (each w.0 w.1))
        (λ there. any_inside ps within x (sym (has_name-keys (over entries) x) ∙ there)))

    pub own_indexed : AreIndexed names entries ps
    own_indexed = record {
      long = sym (length-map ps (entry_of names));
      each = λ n h.
          let inside : n < length ps = omega (arith, h, length-map ps (entry_of names)) in
          subst (λ (e : Entry). IsIndexed names e (indexed_of ps n)) (sym (entry_is names ps n))
          (record {
            owner = refl;
            place = refl;
            writes = refl;
            reads = refl;
            writes_within = (within n unindexed inside).writes;
            reads_within = (within n unindexed inside).reads;
          });
    }

-- ---- marks

pub one_marked : (passes : ℕ → Bool) (marks : List Bool) (i : ℕ) → passes i ≡ true → MarksOnly passes marks → MarksOnly passes (set marks i true)
one_marked passes marks i here before k h at = go (cases_eq k i)
  where
    go : (k ≡ i) ⊎ (k ≡ i → ⊥) → passes k ≡ true
    go (inl e) = subst (λ (j : ℕ). passes j ≡ true) (sym e) here
    go (inr ne) = before k (omega (arith, h, length-set marks i true)) (sym (get_or-set_other marks i k true false ne) ∙ at)

pub none_marked : (passes : ℕ → Bool) (count : ℕ) → MarksOnly passes (replicate count false)
none_marked passes count k h at = absurd (false≢true (sym (get_or-replicate count k false false (omega (arith, h, length-replicate count false))) ∙ at))

-- if all are marked, all pass
pub each_passes : (passes : ℕ → Bool) (marks : List Bool) → MarksOnly passes marks → All (λ mark. mark ≡ true) marks → (k : ℕ) → k < length marks → passes k ≡ true
each_passes passes marks only all k h = only k h (all k false h)

-- ---- if some names are not keys, the marked ones are kept

module _ (names : List (List ℕ)) (sorted : IsStrictlySortedBy name_cmp names) (ps : List Indexed) (within : All (IsWithin (length names)) ps) (marks : List Bool)
    (long : length marks ≡ length names) (used : All (UsesOnly (is_marked marks)) ps) (only : MarksOnly (is_own names ps within) marks) where
  abbrev kept : List (List ℕ)
  kept = kept_of names marks

  abbrev moved : List Indexed
  moved = map (moved_by (ranks_from 0 marks)) ps

  as_before : entries_of kept moved ≡ entries_of names ps
  as_before = moved_same names marks ps within used

  inside : All (IsWithin (length kept)) moved
  inside = moved_within names marks ps within used

  pub kept_keys : kept ≡ keys (over (entries_of names ps))
  kept_keys =
      own_names kept moved inside (kept_sorted names marks sorted)
      (λ k h. subst (λ (es : List Entry). has_name (keys (over es)) (name_of kept k) ≡ true) (sym as_before)
      (all_kept (λ x. has_name (keys (over (entries_of names ps))) x ≡ true) names marks (λ j l at. only j (omega (arith, l, long)) at) k [] h))
      ∙ ap (λ es. keys (over es)) as_before

  pub kept_indexed : AreIndexed kept (entries_of names ps) moved
  kept_indexed = subst (λ (es : List Entry). AreIndexed kept es moved) as_before (own_indexed kept moved inside)
