-- Names in lists, sorted and not.
use Rattle.std.proofs.Common.{ℕ, zero, suc, ◌⊎◌, ◌+◌, ◌<◌, ◌≡◌, ◌≢◌, true, false, List, [], ◌∷◌}
use Rattle.std.proofs.Common.{length, get_or, take, refl, sym, ap, ◌∙◌, arith, inl, inr, Result, Ok}
use Rattle.std.proofs.Common.{Err}
use Rattle.std.specs.Prelude.{bytes_eq, ◌||◌, MatchOption}
use Rattle.std.specs.Ordering.{is_lt}
use Rattle.std.specs.declared.cmp.Ordering.{Ordering}
use Rattle.std.specs.declared.cmp.Ordering.TheVariants.{Less, Equal, Greater}
use Rattle.std.specs.List.Sorted.{IsStrictlySortedBy, IsSortedBy, IsBinarySearchResult, IsSearchInRange}
use Rattle.std.specs.List.{Contains}
use Rattle.std.specs.Result.{result_ok}
use Rattle.std.proofs.lemmas.Bool.{cases_lt, cases_order, eq-eqb, ne_eqb, false_from_ne_true, false≢true, or_cases, or_left, or_right}
use Rattle.std.proofs.Math.Bool.{or-false}
use Rattle.std.proofs.lemmas.Slice.Eq.{bytes_eq-Decides}
use Rattle.std.proofs.lemmas.Cmp.{nat_list_cmp_total, tied_itself}
use Rattle.std.proofs.lemmas.Map.Keys.{Less-from_sorted}
use Rattle.std.proofs.lemmas.Map.Lookups.{exact_bytes}
use Rattle.std.proofs.lemmas.List.{take_more}
use Rattle.std.proofs.lemmas.List.Folds.{list_any-append}
use Rattle.std.proofs.lemmas.List.Sorted.{searchable_from_sorted}
use Rattle.tcc_reads.specs.Sources.{name_cmp}
use Rattle.tcc_graph.specs.Keys.{has_name}
use Rattle.tcc_graph.specs.KeyIndices.{IsAbsent, StandsAt, name_of}

pub bytes_eq-true : (x : List ℕ) (y : List ℕ) → bytes_eq x y ≡ true → x ≡ y
bytes_eq-true x y = (bytes_eq-Decides x y).0

pub bytes_eq-same : (x : List ℕ) (y : List ℕ) → x ≡ y → bytes_eq x y ≡ true
bytes_eq-same x y = (bytes_eq-Decides x y).1

pub bytes_eq-other : (x : List ℕ) (y : List ℕ) → x ≢ y → bytes_eq x y ≡ false
bytes_eq-other x y ne = false_from_ne_true (bytes_eq x y) (λ e. ne ((bytes_eq-Decides x y).0 e))

apart : {o : Ordering} → o ≡ Less → o ≡ Equal → ⊥
apart e f = cc

apart_above : {o : Ordering} → o ≡ Greater → o ≡ Equal → ⊥
apart_above e f = cc

-- two indices of a sorted list have different names
pub indices_differ : (names : List (List ℕ)) (i : ℕ) (j : ℕ) → IsStrictlySortedBy name_cmp names → i < length names → j < length names → i ≢ j
    → name_of names i ≢ name_of names j
indices_differ names i j sorted h k ne same =
    elim (cases_order i j) [
      | inl e ↦ ne e
      | inr less ↦ elim less [
        | inl below ↦ (let low = Less-from_sorted name_cmp names i j [] sorted below k in let tie = tied_itself nat_list_cmp_total (name_of names j) in
            absurd (apart (rw same at low) tie))
        | inr above ↦ (let low = Less-from_sorted name_cmp names j i [] sorted above h in let tie = tied_itself nat_list_cmp_total (name_of names j) in
            absurd (apart (rw same at low) tie))
      ]
    ]

pub sorted_names : (names : List (List ℕ)) → IsStrictlySortedBy name_cmp names → IsSortedBy (λ a b. is_lt (name_cmp a b)) names
sorted_names names sorted k d h i =
    rw (nat_list_cmp_total.antisymm (get_or names (k + 1) d) (get_or names k d), Less-from_sorted name_cmp names k (k + 1) d sorted (omega arith) i) refl

pub index_found : (names : List (List ℕ)) (x : List ℕ) (r : Result ℕ ℕ) → IsStrictlySortedBy name_cmp names → IsSearchInRange r (length names)
    → IsBinarySearchResult (λ y. name_cmp y x) names r → MatchOption (result_ok r) (IsAbsent names x) (λ i. StandsAt names x i)
index_found names x (Ok i) sorted range found =
    let here : name_of names i ≡ x = exact_bytes (name_of names i) x (found []) in
    record {
      within = range;
      only = λ k h. elim (cases_order k i) [
        | inl e ↦ rw (e, here, bytes_eq-same x x refl, eq-eqb i i refl) refl
        | inr differ ↦
            (let ne : k ≢ i = λ e. elim differ [ inl p ↦ absurd (omega arith) | inr p ↦ absurd (omega arith) ] in
            rw (bytes_eq-other (name_of names k) x (λ same. indices_differ names k i sorted h range ne (same ∙ sym here)), ne_eqb k i ne) refl)
      ];
      here = here;
    }
index_found names x (Err i) sorted range found = λ k h. bytes_eq-other (name_of names k) x (λ same.
    let point = found (searchable_from_sorted nat_list_cmp_total (λ y. y) names x (sorted_names names sorted)) in
    let tie : name_cmp (name_of names k) x ≡ Equal = rw same (tied_itself nat_list_cmp_total x) in
    elim (cases_lt k i) [
      | inl below ↦ apart (point.0 k [] (omega arith) below) tie
      | inr above ↦ apart_above (point.1 k [] above h) tie
    ])

-- whether one more name is there
pub has_name-more : (names : List (List ℕ)) (j : ℕ) (name : List ℕ) (x : List ℕ) → j < length names → name ≡ get_or names j name
    → has_name (take (j + 1) names) x ≡ (has_name (take j names) x || bytes_eq x name)
has_name-more names j name x h is =
    rw (take_more names j name h, list_any-append (bytes_eq x) (take j names) (get_or names j name ∷ []), ← is)
    (ap (λ b. has_name (take j names) x || b) (or-false (bytes_eq x name)))

-- a name is found exactly if it is in the list
pub has_name-contains : (names : List (List ℕ)) (x : List ℕ) → has_name names x ≡ true → Contains names x
has_name-contains [] x h = absurd (false≢true h)
has_name-contains (y ∷ names) x h = go (has_name-contains names x) (or_cases (bytes_eq x y) (has_name names x) h)
  where
    go : (has_name names x ≡ true → Contains names x) → (bytes_eq x y ≡ true) ⊎ (has_name names x ≡ true) → Contains (y ∷ names) x
    go rest (inl e) = (0, omega arith, sym ((bytes_eq-Decides x y).0 e))
    go rest (inr r) = let w = rest r in (suc w.0, omega (arith, w.1), w.2)

pub contains-has_name : (names : List (List ℕ)) (x : List ℕ) → Contains names x → has_name names x ≡ true
contains-has_name [] x (k, l, e) = absurd (omega arith)
contains-has_name (y ∷ names) x (zero, l, e) = or_left _ _ ((bytes_eq-Decides x y).1 (sym e))
contains-has_name (y ∷ names) x (suc k, l, e) = or_right _ _ (contains-has_name names x (k, omega arith, e))
