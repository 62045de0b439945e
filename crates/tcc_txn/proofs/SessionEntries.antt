-- The sessions of a snapshot as entries in byte order of their names: what each name has, and which name comes first.
use Rattle.std.proofs.Common.{ℕ, zero, suc, ◌≡◌, ◌<◌, ◌⊎◌, inl, inr, Bool, true, false, cond, T}
use Rattle.std.proofs.Common.{List, [], ◌∷◌, length, map, get_or, Some, refl, sym, ap, subst, ◌∙◌}
use Rattle.std.proofs.Common.{arith}
use Rattle.std.specs.Prelude.{unwrap_or}
use Rattle.std.specs.List.{AllByRecursion, Contains}
use Rattle.std.specs.List.Sorted.{IsStrictlySortedBy}
use Rattle.std.specs.FinMap.{entries, entries_sorted, find, get, get-entries, is_sorted}
use Rattle.std.specs.FinMap.Entries.{below_all}
use Rattle.std.specs.Ordering.{is_eq, is_lt, ordering_reverse}
use Rattle.std.specs.declared.cmp.Ordering.{Ordering}
use Rattle.std.specs.declared.cmp.Ordering.TheVariants.{Less, Equal, Greater}
use Rattle.std.specs.Cmp.Lexicographic.{nat_list_cmp_total}
use Rattle.std.proofs.lemmas.Bool.{cases_order}
use Rattle.std.proofs.lemmas.Cmp.{tied_itself}
use Rattle.std.proofs.lemmas.List.{get_or-map, length-map}
use Rattle.std.proofs.lemmas.Map.Keys.{Less-from_sorted}
use Rattle.std.proofs.lemmas.Map.Lookups.{exact_bytes}
use Rattle.tcc_txn.specs.Nested.{list_of}
use Rattle.tcc_txn.specs.Snapshots.{Sessions}
use Rattle.tcc_txn.specs.Transactions.{Transaction}
use Rattle.tcc_txn.proofs.Growing.{both-parts, less-if}
use Rattle.tcc_txn.proofs.SortedParts.{name_cmp}

-- a session's name and its transactions
abbrev pub Named : Type 0
Named = List ℕ × List Transaction

equal-if : (r : Ordering) → is_eq r ≡ true → r ≡ Equal
equal-if Less e = cc
equal-if Equal e = refl
equal-if Greater e = cc

-- ---- in sorted lists

below_at : (name : List ℕ) (es : List Named) (e : Named) → T (below_all name_cmp name es) → Contains es e → name_cmp name e.0 ≡ Less
below_at name [] e below (i, l, is) = absurd (omega arith)
below_at name (f ∷ es) e below (zero, l, is) =
    subst (λ (z : Named). name_cmp name z.0 ≡ Less) is (less-if _ (both-parts _ (below_all name_cmp name es) below).0)
below_at name (f ∷ es) e below (suc i, l, is) = below_at name es e (both-parts (is_lt (name_cmp name f.0)) _ below).1 (i, omega arith, is)

found_entry : (es : List Named) (e : Named) → T (is_sorted name_cmp es) → Contains es e → find name_cmp e.0 es ≡ Some e.1
found_entry [] e sorted (i, l, is) = absurd (omega arith)
found_entry (f ∷ es) e sorted (zero, l, is) =
    subst (λ (z : Named). find name_cmp z.0 (f ∷ es) ≡ Some z.1) is
    (ap (λ r. cond (is_eq r) (Some f.1) (find name_cmp f.0 es)) (tied_itself nat_list_cmp_total f.0))
found_entry (f ∷ es) e sorted (suc i, l, is) =
    let parts = both-parts (below_all name_cmp f.0 es) (is_sorted name_cmp es) sorted in
    let high : name_cmp e.0 f.0 ≡ Greater = nat_list_cmp_total.antisymm e.0 f.0 ∙ ap ordering_reverse (below_at f.0 es e parts.0 (i, omega arith, is)) in
    ap (λ r. cond (is_eq r) (Some f.1) (find name_cmp e.0 es)) high ∙ found_entry es e parts.1 (i, omega arith, is)

entry_found : (es : List Named) (name : List ℕ) (v : List Transaction) → find name_cmp name es ≡ Some v → (e : Named) × Contains es e × (e.0 ≡ name) × (e.1 ≡ v)
entry_found [] name v found = absurd cc
entry_found (f ∷ es) name v found = go (is_eq (name_cmp name f.0)) refl found (λ rest. entry_found es name v rest)
  where
    go : (b : Bool) → is_eq (name_cmp name f.0) ≡ b → cond b (Some f.1) (find name_cmp name es) ≡ Some v
        → (find name_cmp name es ≡ Some v → (e : Named) × Contains es e × (e.0 ≡ name) × (e.1 ≡ v))
        → (e : Named) × Contains (f ∷ es) e × (e.0 ≡ name) × (e.1 ≡ v)
    go true tied same rest =
        let value : f.1 ≡ v = cc in
        (f, (0, omega arith, refl), sym (exact_bytes name f.0 (equal-if _ tied)), value)
    go false apart same rest = let w = rest same in (w.0, (suc w.1.0, omega (arith, w.1.1), w.1.2), w.2, w.3)

sorted_from : (es : List Named) → T (is_sorted name_cmp es) → IsStrictlySortedBy name_cmp (map (λ e. e.0) es)
unfolding IsStrictlySortedBy
sorted_from [] sorted = tt
sorted_from (e ∷ es) sorted =
    let parts = both-parts (below_all name_cmp e.0 es) (is_sorted name_cmp es) sorted in
    (all_below e.0 es parts.0, sorted_from es parts.1)
  where
    all_below : (name : List ℕ) (es : List Named) → T (below_all name_cmp name es) → AllByRecursion (λ y. name_cmp name y ≡ Less) (map (λ e. e.0) es)
    all_below name [] below = tt
    all_below name (f ∷ es) below =
        let parts = both-parts (is_lt (name_cmp name f.0)) (below_all name_cmp name es) below in
        (less-if _ parts.0, all_below name es parts.1)

-- ---- in snapshots

module _ (s : Sessions) where
  abbrev pub names_in : List (List ℕ)
  names_in = map (λ named. named.0) (entries s)

  pub sorted_names : IsStrictlySortedBy name_cmp names_in
  sorted_names = sorted_from (entries s) (entries_sorted s)

  -- an entry has the list of its session
  pub list_of_entry : (e : Named) → Contains (entries s) e → list_of s e.0 ≡ e.1
  list_of_entry e there = ap (λ o. unwrap_or o []) (get-entries s e.0 ∙ found_entry (entries s) e (entries_sorted s) there)

  -- a session that has a list has an entry
  pub entry_of_name : (name : List ℕ) (v : List Transaction) → get s name ≡ Some v → (e : Named) × Contains (entries s) e × (e.0 ≡ name) × (e.1 ≡ v)
  entry_of_name name v found = entry_found (entries s) name v (sym (get-entries s name) ∙ found)

  -- of two entries the one with the lesser name comes first
  pub lesser_first : (i j : ℕ) (d : Named) → i < length (entries s) → j < length (entries s)
      → name_cmp (get_or (entries s) i d).0 (get_or (entries s) j d).0 ≡ Less → i < j
  lesser_first i j d within inside less = go (cases_order i j)
    where
      name : ℕ → List ℕ
      name k = get_or names_in k []

      name_is : (k : ℕ) → k < length (entries s) → name k ≡ (get_or (entries s) k d).0
      name_is k within = get_or-map (λ e. e.0) (entries s) k d [] within

      go : (i ≡ j) ⊎ ((i < j) ⊎ (j < i)) → i < j
      go (inl same) =
          let tie : name_cmp (get_or (entries s) i d).0 (get_or (entries s) j d).0 ≡ Equal =
          ap (λ (k : ℕ). name_cmp (get_or (entries s) i d).0 (get_or (entries s) k d).0) (sym same)
          ∙ tied_itself nat_list_cmp_total (get_or (entries s) i d).0 in
          absurd cc
      go (inr (inl lower)) = lower
      go (inr (inr higher)) =
          let back : name_cmp (name j) (name i) ≡ Less =
          Less-from_sorted name_cmp names_in j i [] sorted_names higher (omega (arith, within, length-map (entries s) (λ e. e.0))) in
          let low : name_cmp (get_or (entries s) j d).0 (get_or (entries s) i d).0 ≡ Less =
          (λ t. name_cmp (sym (name_is j inside) t) (sym (name_is i within) t)) ∙ back in
          let turned : name_cmp (get_or (entries s) i d).0 (get_or (entries s) j d).0 ≡ Greater =
          nat_list_cmp_total.antisymm (get_or (entries s) i d).0 (get_or (entries s) j d).0 ∙ ap ordering_reverse low in
          absurd cc
