-- Parts in byte order of their names show the map that they make in any order.
use Rattle.std.proofs.Common.{◌≡◌, ℕ, ◌+◌, ◌<◌, Bool, true, false, cond, ◌&&◌, List, [], ◌∷◌, ◌++◌, length, get_or}
use Rattle.std.proofs.Common.{refl, ap, sym, ◌∙◌, subst, arith, append_assoc, Option, None, Some, nat_eq, T}
use Rattle.std.proofs.Common.{append-nil}
use Rattle.std.proofs.lemmas.Option.{none-some}
use Rattle.std.proofs.lemmas.List.{length-map}
use Rattle.std.specs.FinMap.Entries.{below_all}
use Rattle.std.proofs.Math.ListN.{get_or-map}
use Rattle.std.proofs.lemmas.Map.Keys.{IsDistinct-push, IsDistinct-IsPermutation, apart_from_distinct, sorted_from_all_adjacent, sorted_head, sorted_tail}
use Rattle.std.proofs.lemmas.Map.Views.{Contains-from_lookup, lookup-from_Contains}
use Rattle.std.proofs.lemmas.Map.Lookups.{exact_bytes}
use Rattle.std.proofs.lemmas.List.Sorted.{IsPermutation-map, IsPermutation-sym, Contains-permutation}
use Rattle.std.specs.List.{list_any, IsDistinct, AllByRecursion}
use Rattle.std.specs.List.Sorted.{IsPermutation, IsSortedByKey, IsStrictlySortedBy}
use Rattle.std.specs.Map.{lookup}
use Rattle.std.specs.Cmp.Lexicographic.{pointwise, slice_cmp, nat_list_eq_equiv, nat_list_cmp_total, texts_ties}
use Rattle.std.specs.Ordering.{nat_cmp, is_lt, is_eq, ordering_reverse}
use Rattle.std.specs.FinMap as finite
use Rattle.std.specs.declared.cmp.Ordering.{Ordering}
use Rattle.std.specs.declared.cmp.Ordering.TheVariants.{Less, Equal, Greater}
use Rattle.tcc_txn.specs.Snapshots.{first_repeated}
use Rattle.tcc_txn.proofs.Parts.{names_of}

abbrev pub name_cmp : List ℕ → List ℕ → Ordering
name_cmp = slice_cmp nat_cmp

abbrev pub same_name : List ℕ → List ℕ → Bool
same_name = pointwise nat_eq

equal_if : (r : Ordering) → is_eq r ≡ true → r ≡ Equal
equal_if Less e = cc
equal_if Equal e = refl
equal_if Greater e = cc

-- names that the test finds equal are equal
pub same_names : (a b : List ℕ) → same_name a b ≡ true → a ≡ b
same_names a b e = exact_bytes a b (equal_if (name_cmp a b) (sym (texts_ties a b) ∙ e))

-- if no name is repeated, all differ
pub distinct_names : (earlier later : List (List ℕ)) → first_repeated earlier later ≡ None → IsDistinct same_name earlier
    → IsDistinct same_name (earlier ++ later)
distinct_names earlier [] none distinct = subst (IsDistinct same_name) (sym (append-nil earlier)) distinct
distinct_names earlier (name ∷ later) none distinct =
    elim (list_any (same_name name) earlier) as (λ b. list_any (same_name name) earlier ≡ b
    → cond b (Some name) (first_repeated (earlier ++ name ∷ []) later) ≡ None → IsDistinct same_name (earlier ++ name ∷ later)) [
      | true ↦ λ found some. absurd (none-some name (sym some))
      | false ↦ λ new rest. subst (IsDistinct same_name) (append_assoc earlier (name ∷ []) later)
          (distinct_names (earlier ++ name ∷ []) later rest (IsDistinct-push nat_list_eq_equiv earlier name distinct new))
    ] refl none

-- what a look-up finds is found among the same entries in another order
found_IsPermutation : {X : Type 0} (es fs : List (List ℕ × X)) (q : List ℕ) (v : X) → IsDistinct same_name (names_of fs) → IsPermutation es fs
    → lookup (same_name q) es ≡ Some v → lookup (same_name q) fs ≡ Some v
found_IsPermutation es fs q v distinct moved found =
    lookup-from_Contains nat_list_eq_equiv q v fs distinct
    (Contains-permutation es fs (q, v) moved (Contains-from_lookup same_names q v es found))

pub distinct_IsPermutation : {X : Type 0} (es fs : List (List ℕ × X)) → IsDistinct same_name (names_of es) → IsPermutation es fs
    → IsDistinct same_name (names_of fs)
distinct_IsPermutation es fs distinct moved =
    IsDistinct-IsPermutation same_name nat_list_eq_equiv.symm (names_of es) (names_of fs) (IsPermutation-map (λ e. e.0) es fs moved) distinct

-- a look-up finds the same among the same entries in another order
pub lookup-IsPermutation : {X : Type 0} (es fs : List (List ℕ × X)) (q : List ℕ) → IsDistinct same_name (names_of es) → IsPermutation es fs
    → lookup (same_name q) fs ≡ lookup (same_name q) es
lookup-IsPermutation {X} es fs q distinct moved =
    elim (lookup (same_name q) es) as (λ (o : Option X). lookup (same_name q) es ≡ o → lookup (same_name q) fs ≡ o) [
      | Some v ↦ λ found. found_IsPermutation es fs q v (distinct_IsPermutation es fs distinct moved) moved found
      | None ↦ λ none. elim (lookup (same_name q) fs) as (λ (o : Option X). lookup (same_name q) fs ≡ o → o ≡ None) [
        | Some v ↦ λ found. absurd (none-some v (sym none ∙ found_IsPermutation fs es q v distinct (IsPermutation-sym es fs moved) found))
        | None ↦ λ _. refl
      ] refl
    ] refl

find_is_lookup : {X : Type 0} (q : List ℕ) (es : List (List ℕ × X)) → finite.find name_cmp q es ≡ lookup (same_name q) es
find_is_lookup q [] = refl
find_is_lookup q (e ∷ es) = λ i. cond (sym (texts_ties q e.0) i) (Some e.1) (find_is_lookup q es i)

-- of two names that differ, in ascending order, the first is less
strictly : (a b : List ℕ) → is_lt (name_cmp b a) ≡ false → same_name a b ≡ false → name_cmp a b ≡ Less
strictly a b up apart =
    elim (name_cmp b a) as (λ r. name_cmp a b ≡ ordering_reverse r → is_lt r ≡ false → name_cmp a b ≡ Less) [
      | Less ↦ λ e down. cc
      | Equal ↦ λ e down. let tie : same_name a b ≡ true = texts_ties a b ∙ ap is_eq e in cc
      | Greater ↦ λ e down. e
    ] (nat_list_cmp_total.antisymm a b) up

below_from_less : {X : Type 0} (name : List ℕ) (es : List (List ℕ × X)) → AllByRecursion (λ other. name_cmp name other ≡ Less) (names_of es)
    → below_all name_cmp name es ≡ true
below_from_less name [] all = refl
below_from_less name (e ∷ es) all = λ i. is_lt (all.0 i) && below_from_less name es all.1 i

rising_from_strict : {X : Type 0} (es : List (List ℕ × X)) → IsStrictlySortedBy name_cmp (names_of es) → finite.is_sorted name_cmp es ≡ true
rising_from_strict [] up = refl
rising_from_strict (e ∷ es) up =
    λ i. below_from_less e.0 es (sorted_head name_cmp e.0 (names_of es) up) i
    && rising_from_strict es (sorted_tail name_cmp e.0 (names_of es) up) i

-- names in ascending order that differ strictly ascend
pub rising_names : {X : Type 0} (es : List (List ℕ × X)) → IsDistinct same_name (names_of es) → IsSortedByKey (λ e. e.0) name_cmp es
    → finite.is_sorted name_cmp es ≡ true
rising_names [] distinct sorted = refl
rising_names {X} (e ∷ es) distinct sorted =
    rising_from_strict (e ∷ es) (sorted_from_all_adjacent nat_list_cmp_total (names_of (e ∷ es)) e.0 (λ k within.
    let name : List ℕ × X → List ℕ = λ part. part.0 in
    let inside : k + 1 < length (e ∷ es) = omega (arith, within, length-map (e ∷ es) name) in
    let up : is_lt (name_cmp (get_or (names_of (e ∷ es)) (k + 1) e.0) (get_or (names_of (e ∷ es)) k e.0)) ≡ false
    = (λ i. is_lt (name_cmp (get_or-map name (e ∷ es) (k + 1) e i) (get_or-map name (e ∷ es) k e i))) ∙ sorted k e (omega arith) inside in
    strictly (get_or (names_of (e ∷ es)) k e.0) (get_or (names_of (e ∷ es)) (k + 1) e.0) up
    (apart_from_distinct same_name (names_of (e ∷ es)) k (k + 1) e.0 distinct (omega arith) within)))

-- sorted parts show the map that they make in any order
pub shown_sorted : {X : Type 0} (es fs : List (List ℕ × X)) → IsDistinct same_name (names_of es) → IsPermutation es fs
    → finite.is_sorted name_cmp fs ≡ true → finite.from_sorted {R = name_cmp} fs ≡ finite.from_entries es
shown_sorted es fs distinct moved rising =
    finite.same_map nat_list_cmp_total exact_bytes (finite.from_sorted fs) (finite.from_entries es) (λ q.
    finite.get-entries (finite.from_sorted fs) q
    ∙ ap (finite.find name_cmp q) (finite.entries-from_sorted name_cmp fs (subst T (sym rising) tt))
    ∙ find_is_lookup q fs ∙ lookup-IsPermutation es fs q distinct moved
    ∙ sym (finite.get-from_entries nat_list_cmp_total es q ∙ find_is_lookup q es))
