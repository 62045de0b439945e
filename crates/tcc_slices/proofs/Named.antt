-- The names of the sessions of a snapshot's transactions never fall, by number; so a cut is made at its end.
use Rattle.std.proofs.Common.{ℕ, ◌≡◌, ◌<◌, ◌≤◌, ◌+◌, ◌++◌, ◌&&◌, ◌⊎◌, inl, inr, Bool, true, false, cond, List, [], ◌∷◌, length, length-append, get_or, map, refl, sym, ap, subst, ◌∙◌, arith}
use Rattle.std.specs.Prelude.{Option, Some, None, nat_lt, slice_index, slice_index_or}
use Rattle.std.specs.List.{Contains}
use Rattle.std.specs.FinMap as finite
use Rattle.std.specs.FinMap.{entries}
use Rattle.std.specs.Ordering.{ordering_reverse}
use Rattle.std.specs.declared.cmp.Ordering.TheVariants.{Less, Equal, Greater}
use Rattle.std.specs.Cmp.Lexicographic.{nat_list_cmp_total}
use Rattle.std.proofs.lemmas.Bool.{and_parts, cases_Bool, cases_lt, ltb-true}
use Rattle.std.proofs.lemmas.Cmp.{tied_itself}
use Rattle.std.proofs.lemmas.List.{get_or-map, get_or_append_left, get_or_push, length-map}
use Rattle.std.proofs.lemmas.Map.Keys.{Less-from_sorted}
use Rattle.tcc_txn.specs.Finished.{with_transaction}
use Rattle.tcc_txn.specs.Snapshots.{Sessions}
use Rattle.tcc_txn.specs.Transactions.{Transaction}
use Rattle.tcc_txn.proofs.SessionEntries.{Named, sorted_names}
use Rattle.tcc_txn.proofs.SortedParts.{name_cmp}
use Rattle.tcc_reads.specs.History.{History, IsBySession, count, owner, place}
use Rattle.tcc_reads.specs.Sites.{Stand, stands, stands_from}
use Rattle.tcc_graph.specs.Numbers.{at}
use Rattle.tcc_slices.specs.private.Carrying.{IsRising}
use Rattle.tcc_slices.specs.private.Cutting.{IsCut, IsNamed, IsPartAt, IsPartOf, own_needs}
use Rattle.tcc_slices.specs.declared.needs.Need.{Need}
use Rattle.tcc_slices.proofs.Lasting.{IsUpTo, one_more, names_more}

pub some_is : {X : Type 0} {x y : X} → Some x ≡ Some y → x ≡ y
some_is e = cc

pub none_some : {X : Type 0} {x : X} → None ≡ Some x → ⊥
none_some e = cc

-- the session and the place of a number
pub at_parts : (h : History) (n i p : ℕ) → at h n ≡ Some (i, p) → (0 < n) × (n < count h) × (owner h n ≡ i) × (place h n ≡ p)
at_parts h n i p is = go (cases_Bool (nat_lt 0 n && nat_lt n (count h)))
  where
    go : ((nat_lt 0 n && nat_lt n (count h)) ≡ true) ⊎ ((nat_lt 0 n && nat_lt n (count h)) ≡ false)
        → (0 < n) × (n < count h) × (owner h n ≡ i) × (place h n ≡ p)
    go (inl both) =
        let parts = and_parts (nat_lt 0 n) (nat_lt n (count h)) both in
        let pair : ◌≡◌ {A = ℕ × ℕ} (owner h n, place h n) (i, p)
        = some_is (sym (ap (λ (b : Bool). cond {A = Option (ℕ × ℕ)} b (Some (owner h n, place h n)) None) both) ∙ is) in
        (ltb-true 0 n parts.0, ltb-true n (count h) parts.1, ap (λ (z : ℕ × ℕ). z.0) pair, ap (λ (z : ℕ × ℕ). z.1) pair)
    go (inr none) =
        absurd (none_some (sym (ap (λ (b : Bool). cond {A = Option (ℕ × ℕ)} b (Some (owner h n, place h n)) None) none) ∙ is))

module _ (s : Sessions) (h : History) (numbered : IsBySession h.entries) where
  abbrev names : List (List ℕ)
  names = map (λ (e : Named). e.0) (entries s)

  name_at : (x : List ℕ) (i : ℕ) → i < length (entries s) → (slice_index_or (entries s) i (x, [])).0 ≡ x → (i < length names) × (get_or names i [] ≡ x)
  name_at x i inside is =
      (omega (arith, inside, length-map (entries s) (λ (e : Named). e.0)), get_or-map (λ (e : Named). e.0) (entries s) i (x, []) [] inside ∙ is)

  -- of a lower number the name isn't above
  not_above : (m n : ℕ) (x y : List ℕ) → m < n → IsNamed s h m x → IsNamed s h n y → name_cmp y x ≡ Less → ⊥
  not_above m n x y low (i, p, from, inside, x_is) (j, q, to, within, y_is) below = go (cases_lt i j)
    where
      a : (0 < m) × (m < count h) × (owner h m ≡ i) × (place h m ≡ p)
      a = at_parts h m i p from

      b : (0 < n) × (n < count h) × (owner h n ≡ j) × (place h n ≡ q)
      b = at_parts h n j q to

      order : owner h m ≤ owner h n
      order = (numbered m n low b.1).0

      at_x : (i < length names) × (get_or names i [] ≡ x)
      at_x = name_at x i inside x_is

      at_y : (j < length names) × (get_or names j [] ≡ y)
      at_y = name_at y j within y_is

      go : (i < j) ⊎ (j ≤ i) → ⊥
      go (inl less) =
          let up : name_cmp x y ≡ Less =
          (λ k. name_cmp (sym at_x.1 k) (sym at_y.1 k)) ∙ Less-from_sorted name_cmp names i j [] (sorted_names s) less at_y.0 in
          let down : name_cmp y x ≡ Greater = nat_list_cmp_total.antisymm y x ∙ ap ordering_reverse up in
          absurd cc
      go (inr past) =
          let same : i ≡ j = omega (arith, past, a.2, b.2, order) in
          let names_same : x ≡ y = sym at_x.1 ∙ ap (λ (k : ℕ). get_or names k []) same ∙ at_y.1 in
          let tie : name_cmp y x ≡ Equal = ap (name_cmp y) names_same ∙ tied_itself nat_list_cmp_total y in
          absurd cc

  module _ (needs : List (ℕ × Need)) (numbers : List ℕ) (rising : IsRising numbers) where
    pub none_cut : (slice : Sessions) → slice ≡ finite.empty → IsCut s h needs numbers 1 slice
    none_cut slice is = record {
      long = sym (ap (λ (z : List Named). length (stands_from 0 z) + 1) none);
      each = λ i d inside. absurd (omega (arith, inside, ap (λ (z : List Named). length (stands_from 0 z)) none));
      names = λ e there. absurd (go e (subst (λ (z : List Named). Contains z e) none there));
    }
      where
        no_items : (es : List Named) → length es ≡ 0 → es ≡ []
        no_items [] e = refl
        no_items (f ∷ es) e = absurd (omega (arith, e))

        none : entries slice ≡ []
        none =
            ap entries is
            ∙ no_items (entries finite.empty) (sym (finite.len-entries finite.empty) ∙ finite.len-empty name_cmp (List Transaction))

        go : (e : Named) → Contains [] e → ⊥
        go e (k, l, at) = omega (arith, l)

    pub cut_more : (slice next : Sessions) (k : ℕ) (name : List ℕ) (txn : Transaction) → 0 < k → k < length numbers → IsCut s h needs numbers k slice
        → next ≡ with_transaction slice name txn → IsNamed s h (slice_index numbers k) name
        → IsPartOf s h (own_needs needs (slice_index numbers k)) (slice_index numbers k) txn → IsCut s h needs numbers (k + 1) next
    cut_more slice next k name txn some below cut is named part = record { long = long; each = each; names = in_next }
      where
        upto : IsUpTo name txn (entries slice)
        upto e there =
            let w = cut.names e there in
            not_above (slice_index numbers w.0) (slice_index numbers k) e.0 name (rising w.0 k w.2 below) w.3 named

        last : (t : Stand) × (t.name ≡ name) × (t.txn ≡ txn) × (stands (with_transaction slice name txn) ≡ stands slice ++ t ∷ [])
        last = one_more slice name txn upto

        here : stands next ≡ stands slice ++ last.0 ∷ []
        here = ap stands is ∙ last.3

        longer : length (stands next) ≡ length (stands slice) + 1
        longer = ap length here ∙ length-append (stands slice) (last.0 ∷ [])

        long : k + 1 ≡ length (stands next) + 1
        long = omega (arith, longer, cut.long)

        newest : IsPartAt s h needs (slice_index numbers k) last.0
        newest = record {
          named = subst (λ (z : List ℕ). IsNamed s h (slice_index numbers k) z) (sym last.1) named;
          part = subst (λ (z : Transaction). IsPartOf s h (own_needs needs (slice_index numbers k)) (slice_index numbers k) z) (sym last.2) part;
        }

        each : (i : ℕ) (d : Stand) → i < length (stands next) → IsPartAt s h needs (slice_index numbers (i + 1)) (slice_index_or (stands next) i d)
        each i d inside = go (cases_lt i (length (stands slice)))
          where
            go : (i < length (stands slice)) ⊎ (length (stands slice) ≤ i) → IsPartAt s h needs (slice_index numbers (i + 1)) (slice_index_or (stands next) i d)
            go (inl old) =
                let same : slice_index_or (stands next) i d ≡ slice_index_or (stands slice) i d
                = ap (λ (z : List Stand). slice_index_or z i d) here ∙ get_or_append_left (stands slice) (last.0 ∷ []) d i old in
                subst (λ (z : Stand). IsPartAt s h needs (slice_index numbers (i + 1)) z) (sym same) (cut.each i d old)
            go (inr new) =
                let index : length (stands slice) ≡ i = omega (arith, new, inside, longer) in
                let number : k ≡ i + 1 = omega (arith, index, cut.long) in
                let same : slice_index_or (stands next) i d ≡ last.0
                = ap (λ (z : List Stand). slice_index_or z i d) here ∙ get_or_push (stands slice) last.0 d i index in
                subst (λ (z : ℕ). IsPartAt s h needs (slice_index numbers z) (slice_index_or (stands next) i d)) number
                (subst (λ (z : Stand). IsPartAt s h needs (slice_index numbers k) z) (sym same) newest)

        in_next : (e : Named) → Contains (entries next) e → (j : ℕ) × (0 < j) × (j < k + 1) × IsNamed s h (slice_index numbers j) e.0
        in_next e there = go (names_more slice name txn e (subst (λ (z : Sessions). Contains (entries z) e) is there))
          where
            go : ((f : Named) × Contains (entries slice) f × (f.0 ≡ e.0)) ⊎ (e.0 ≡ name)
                → (j : ℕ) × (0 < j) × (j < k + 1) × IsNamed s h (slice_index numbers j) e.0
            go (inl (f, old, same)) =
                let w = cut.names f old in
                (w.0, w.1, omega (arith, w.2), subst (λ (z : List ℕ). IsNamed s h (slice_index numbers w.0) z) same w.3)
            go (inr same) = (k, some, omega arith, subst (λ (z : List ℕ). IsNamed s h (slice_index numbers k) z) (sym same) named)
