-- Readings are in order, each once: by the number of their group, and in a group by their values.
use Rattle.std.proofs.Common.{ℕ, zero, suc, ◌+◌, ◌<◌, ◌≡◌, Bool, true, false, cond, List, [], ◌∷◌, ◌++◌, length, refl, sym, ap, ◌∙◌, subst, arith, inl, inr}
use Rattle.std.specs.Prelude.{All, map, filter, ◌==◌}
use Rattle.std.specs.List.{AllByRecursion, range_with_len}
use Rattle.std.specs.List.Sorted.{IsStrictlySortedBy}
use Rattle.std.specs.Ordering.{nat_cmp, ordering_then}
use Rattle.std.specs.Cmp.{nat_cmp_is}
use Rattle.std.specs.declared.cmp.Ordering.{Ordering}
use Rattle.std.specs.declared.cmp.Ordering.TheVariants.{Less, Equal, Greater}
use Rattle.std.proofs.lemmas.Bool.{cases_order, eqb-true}
use Rattle.std.proofs.lemmas.Cmp.{nat_list_cmp_total, tied_itself}
use Rattle.std.proofs.lemmas.List.FromFn.{get_or-range_with_len, length-range_with_len}
use Rattle.std.proofs.lemmas.List.Kept.{IsStrictlySortedBy-filter}
use Rattle.std.proofs.lemmas.Map.Keys.{Less-from_sorted, sorted_from_strictly_increasing}
use Rattle.tcc_reads.specs.Sources.{name_cmp, pair_cmp}
use Rattle.tcc_graph.specs.private.Grouped.{as_group, groups}
use Rattle.tcc_graph.specs.KeyIndices.{name_of}
use Rattle.tcc_graph.specs.private.ReadTables.{values_from}
use Rattle.tcc_graph.specs.Relations.{by_number}

-- ---- lists

all_more : {X : Type 0} (P Q : X → Type 0) → ((x : X) → P x → Q x) → (xs : List X) → AllByRecursion P xs → AllByRecursion Q xs
all_more P Q f [] all = tt
all_more P Q f (x ∷ xs) all = (f x all.0, all_more P Q f xs all.1)

all_append : {X : Type 0} (P : X → Type 0) (xs ys : List X) → AllByRecursion P xs → AllByRecursion P ys → AllByRecursion P (xs ++ ys)
all_append P [] ys some others = others
all_append P (x ∷ xs) ys some others = (some.0, all_append P xs ys some.1 others)

sorted_append : {X : Type 0} (c : X → X → Ordering) (xs ys : List X) → IsStrictlySortedBy c xs → IsStrictlySortedBy c ys
    → AllByRecursion (λ x. AllByRecursion (λ y. c x y ≡ Less) ys) xs → IsStrictlySortedBy c (xs ++ ys)
unfolding IsStrictlySortedBy
sorted_append c [] ys low high across = high
sorted_append c (x ∷ xs) ys low high across = (all_append (λ y. c x y ≡ Less) xs ys low.0 across.0, sorted_append c xs ys low.1 high across.1)

-- ---- groups

module _ {X : Type 0} (cmp : X → X → Ordering) where
  lower_group : (p q : ℕ × X) → p.0 < q.0 → by_number cmp p q ≡ Less
  lower_group p q less = ap (λ o. ordering_then o (cmp p.1 q.1)) (sym (nat_cmp_is p.0 q.0 Less less))

  same_group : (g : ℕ) (x y : X) → cmp x y ≡ Less → by_number cmp (g, x) (g, y) ≡ Less
  same_group g x y less = ap (λ o. ordering_then o (cmp x y)) (sym (nat_cmp_is g g Equal refl)) ∙ less

  above_in_group : (g : ℕ) (x : X) (ys : List X) → AllByRecursion (λ y. cmp x y ≡ Less) ys → AllByRecursion (λ q. by_number cmp (g, x) q ≡ Less) (as_group g ys)
  above_in_group g x [] all = tt
  above_in_group g x (y ∷ ys) all = (same_group g x y all.0, above_in_group g x ys all.1)

  group_sorted : (g : ℕ) (xs : List X) → IsStrictlySortedBy cmp xs → IsStrictlySortedBy (by_number cmp) (as_group g xs)
  unfolding IsStrictlySortedBy
  group_sorted g [] sorted = tt
  group_sorted g (x ∷ xs) sorted = (above_in_group g x xs sorted.0, group_sorted g xs sorted.1)

  of_number : (g : ℕ) (xs : List X) → AllByRecursion (λ p. p.0 ≡ g) (as_group g xs)
  of_number g [] = tt
  of_number g (x ∷ xs) = (refl, of_number g xs)

  below_number : (values : ℕ → List X) (n : ℕ) → AllByRecursion (λ p. p.0 < n) (groups values n)
  below_number values zero = tt
  below_number values (suc n) =
      all_append (λ p. p.0 < suc n) (groups values n) (as_group n (values n))
      (all_more (λ p. p.0 < n) (λ p. p.0 < suc n) (λ p less. omega arith) (groups values n) (below_number values n))
      (all_more (λ p. p.0 ≡ n) (λ p. p.0 < suc n) (λ p same. omega (arith, same)) (as_group n (values n)) (of_number n (values n)))

  -- groups of lists in order are in order
  pub groups_sorted : (values : ℕ → List X) (n : ℕ) → ((g : ℕ) → g < n → IsStrictlySortedBy cmp (values g))
      → IsStrictlySortedBy (by_number cmp) (groups values n)
  unfolding IsStrictlySortedBy
  groups_sorted values zero each = tt
  groups_sorted values (suc n) each =
      sorted_append (by_number cmp) (groups values n) (as_group n (values n)) (groups_sorted values n (λ g less. each g (omega arith)))
      (group_sorted n (values n) (each n (omega arith)))
      (all_more (λ p. p.0 < n) (λ p. AllByRecursion (λ q. by_number cmp p q ≡ Less) (as_group n (values n)))
      (λ p less. all_more (λ q. q.0 ≡ n) (λ q. by_number cmp p q ≡ Less) (λ q same. lower_group p q (omega (arith, less, same))) (as_group n (values n))
      (of_number n (values n)))
      (groups values n) (below_number values n))

-- ---- numbers of a range

range_sorted : (n : ℕ) → IsStrictlySortedBy nat_cmp (range_with_len 0 n)
range_sorted n = sorted_from_strictly_increasing (range_with_len 0 n) (λ k l.
    let inside : k + 1 < n = omega (arith, length-range_with_len 0 n) in
    let here = get_or-range_with_len 0 n k 0 (omega arith) in
    let next = get_or-range_with_len 0 n (k + 1) 0 inside in
    omega arith)

pub filtered_sorted : (p : ℕ → Bool) (n : ℕ) → IsStrictlySortedBy nat_cmp (filter p (range_with_len 0 n))
filtered_sorted p n = IsStrictlySortedBy-filter nat_cmp p (range_with_len 0 n) (range_sorted n)

-- ---- what one transaction reads from a source

first_less : (x y : List ℕ) (a b : ℕ) → a ≡ b → pair_cmp (x, a) (y, b) ≡ Less → name_cmp x y ≡ Less
first_less x y a b same less = go (name_cmp x y) refl
  where
    tied : nat_cmp a b ≡ Equal
    tied = sym (nat_cmp_is a b Equal same)

    go : (o : Ordering) → name_cmp x y ≡ o → name_cmp x y ≡ Less
    go Less is = is
    go Equal is = let no : Equal ≡ Less = sym tied ∙ sym (ap (λ o. ordering_then o (nat_cmp a b)) is) ∙ less in absurd cc
    go Greater is = let no : Greater ≡ Less = sym (ap (λ o. ordering_then o (nat_cmp a b)) is) ∙ less in absurd cc

above_from : (x : List ℕ) (a : ℕ) (reads : List (List ℕ × ℕ)) → AllByRecursion (λ r. pair_cmp (x, a) r ≡ Less) reads
    → AllByRecursion (λ y. name_cmp x y ≡ Less) (values_from reads a)
above_from x a [] all = tt
above_from x a (read ∷ reads) all = go (read.1 == a) refl (above_from x a reads all.1)
  where
    go : (b : Bool) → (read.1 == a) ≡ b → AllByRecursion (λ y. name_cmp x y ≡ Less) (values_from reads a)
        → AllByRecursion (λ y. name_cmp x y ≡ Less) (map (λ r. r.0) (cond b (read ∷ filter (λ r. r.1 == a) reads) (filter (λ r. r.1 == a) reads)))
    go true is rest = (first_less x read.0 a read.1 (sym (eqb-true read.1 a is)) all.0, rest)
    go false is rest = rest

pub values_sorted : (reads : List (List ℕ × ℕ)) (a : ℕ) → IsStrictlySortedBy pair_cmp reads → IsStrictlySortedBy name_cmp (values_from reads a)
unfolding IsStrictlySortedBy
values_sorted [] a sorted = tt
values_sorted (read ∷ reads) a sorted = go (read.1 == a) refl (values_sorted reads a sorted.1)
  where
    go : (b : Bool) → (read.1 == a) ≡ b → IsStrictlySortedBy name_cmp (values_from reads a)
        → IsStrictlySortedBy name_cmp (map (λ r. r.0) (cond b (read ∷ filter (λ r. r.1 == a) reads) (filter (λ r. r.1 == a) reads)))
    go true is rest = (
      above_from read.0 a reads (subst (λ n. AllByRecursion (λ r. pair_cmp (read.0, n) r ≡ Less) reads) (eqb-true read.1 a is) sorted.0),
      rest,
    )
    go false is rest = rest

-- ---- indices of names in order

module _ (names : List (List ℕ)) (sorted : IsStrictlySortedBy name_cmp names) where
  lower_index : (i j : ℕ) → i < length names → name_cmp (name_of names i) (name_of names j) ≡ Less → i < j
  lower_index i j within less =
      elim (cases_order i j) [
        | inl same ↦ absurd (let tie = tied_itself nat_list_cmp_total (name_of names j) in not_less (rw same at less) tie)
        | inr other ↦ elim other [
          | inl below ↦ below
          | inr above ↦ absurd (not_above (Less-from_sorted name_cmp names j i [] sorted above within))
        ]
      ]
    where
      not_less : {o : Ordering} → o ≡ Less → o ≡ Equal → ⊥
      not_less e f = cc

      not_above : name_cmp (name_of names j) (name_of names i) ≡ Less → ⊥
      not_above low = let turned = nat_list_cmp_total.antisymm (name_of names i) (name_of names j) in cc

  above_indices : (i : ℕ) (ks : List ℕ) → i < length names → AllByRecursion (λ y. name_cmp (name_of names i) y ≡ Less) (map (name_of names) ks)
      → AllByRecursion (λ k. nat_cmp i k ≡ Less) ks
  above_indices i [] within all = tt
  above_indices i (k ∷ ks) within all = (sym (nat_cmp_is i k Less (lower_index i k within all.0)), above_indices i ks within all.1)

  pub indices_sorted : (ks : List ℕ) → All (λ k. k < length names) ks → IsStrictlySortedBy name_cmp (map (name_of names) ks) → IsStrictlySortedBy nat_cmp ks
  unfolding IsStrictlySortedBy
  indices_sorted [] within ordered = tt
  indices_sorted (k ∷ ks) within ordered = (
    above_indices k ks (within 0 k (omega arith)) ordered.0,
    indices_sorted ks (λ i d less. within (suc i) d (omega arith)) ordered.1,
  )
