-- The index of a key in a list of keys.
use Rattle.std.proofs.Common.{◌≡◌, ℕ, zero, suc, ◌+◌, ◌<◌, ◌≤◌, Bool, true, false, cond, ◌||◌, List, [], ◌∷◌, length, get_or, drop}
use Rattle.std.proofs.Common.{inl, inr, None, Some, Ok, Err, refl, ap, sym, ◌∙◌, arith}
use Rattle.std.specs.Prelude.{◌==◌, unwrap_or}
use Rattle.std.specs.List.{list_any, position_from}
use Rattle.std.specs.List.Sorted.{IsStrictlySortedBy, IsSortedBy, IsBinarySearchResult}
use Rattle.std.specs.Str.{bytes_eq}
use Rattle.std.specs.Ordering.{is_lt}
use Rattle.std.specs.declared.cmp.Ordering.{Ordering}
use Rattle.std.specs.declared.cmp.Ordering.TheVariants.{Less, Equal, Greater}
use Rattle.std.proofs.lemmas.Bool.{cases_lt, cases_order, ne_eqb, false_from_ne_true, false≢true}
use Rattle.std.proofs.lemmas.Cmp.{nat_list_cmp_total, tied_itself}
use Rattle.std.proofs.lemmas.Map.Keys.{Less-from_sorted}
use Rattle.std.proofs.lemmas.Map.Lookups.{exact_bytes}
use Rattle.std.proofs.lemmas.List.Sorted.{searchable_from_sorted}
use Rattle.tcc_txn.specs.Symbols.{IsNumber}
use Rattle.tcc_txn.specs.declared.op.Op.{Op}
use Rattle.tcc_txn.specs.declared.op.Op.TheVariants.{Get, Put}
use Rattle.tcc_reads.specs.Sources.{name_cmp, puts_at}
use Rattle.tcc_reads.specs.private.KeyIndices.{indices_put, has_key, index_of, key_index, AreKnownIn}
use Rattle.tcc_reads.proofs.Ties.{same_name, itself, numbers_same}

-- ---- the first that passes

pub only_position : {X : Type 0} (p : X → Bool) (from : ℕ) (xs : List X) (i : ℕ) (d : X) → i < length xs → p (get_or xs i d) ≡ true
    → ((j : ℕ) → j < length xs → p (get_or xs j d) ≡ true → j ≡ i) → position_from p from xs ≡ Some (from + i)
only_position p from [] i d l here only = absurd (omega arith)
only_position p from (x ∷ xs) zero d l here only = let e : from ≡ from + 0 =
    omega arith in ap (λ b. cond b (Some from) (position_from p (from + 1) xs)) here ∙ ap Some e
only_position p from (x ∷ xs) (suc i) d l here only =
    go (p x) refl (only_position p (from + 1) xs i d (omega arith) here (λ j m t. let same : suc j ≡ suc i = only (suc j) (omega arith) t in omega arith))
  where
    go : (b : Bool) → p x ≡ b → position_from p (from + 1) xs ≡ Some (from + 1 + i)
        → cond (p x) (Some from) (position_from p (from + 1) xs) ≡ Some (from + suc i)
    go true first rest = let same : 0 ≡ suc i = only 0 (omega arith) first in absurd (omega arith)
    go false other rest =
        let next : from + 1 + i ≡ from + suc i = omega arith in
        ap (λ b. cond b (Some from) (position_from p (from + 1) xs)) other ∙ rest ∙ ap Some next

no_position : {X : Type 0} (p : X → Bool) (from : ℕ) (xs : List X) → ((j : ℕ) (d : X) → j < length xs → p (get_or xs j d) ≡ false)
    → position_from p from xs ≡ None
no_position p from [] none = refl
no_position p from (x ∷ xs) none =
    ap (λ b. cond b (Some from) (position_from p (from + 1) xs)) (none 0 x (omega arith))
    ∙ no_position p (from + 1) xs (λ j d l. none (suc j) d (omega arith))

some_position : {X : Type 0} (p : X → Bool) (from : ℕ) (xs : List X) → list_any p xs ≡ true → (k : ℕ) × (position_from p from xs ≡ Some k)
some_position p from [] any = absurd (false≢true any)
some_position {X} p from (x ∷ xs) any = go (p x) any (some_position p (from + 1) xs)
  where
    go : (b : Bool) → (b || list_any p xs) ≡ true → (list_any p xs ≡ true → (k : ℕ) × (position_from p (from + 1) xs ≡ Some k))
        → (k : ℕ) × (cond b (Some from) (position_from p (from + 1) xs) ≡ Some k)
    go true e rest = (from, refl)
    go false e rest = rest e

no_earlier : {X : Type 0} (p : X → Bool) (from : ℕ) (xs : List X) (k : ℕ) → position_from p from xs ≡ Some k → from ≤ k
no_earlier p from [] k is = absurd cc
no_earlier p from (x ∷ xs) k is = go (p x) is (no_earlier p (from + 1) xs k)
  where
    go : (b : Bool) → cond b (Some from) (position_from p (from + 1) xs) ≡ Some k → (position_from p (from + 1) xs ≡ Some k → from + 1 ≤ k) → from ≤ k
    go true e rest = let same : from ≡ k = cc in omega arith
    go false e rest = let later = rest e in omega arith

-- keys with one index are equal
one_name : (keys : List (List ℕ)) (from k : ℕ) (x y : List ℕ)
    → position_from (bytes_eq x) from keys ≡ Some k → position_from (bytes_eq y) from keys ≡ Some k → x ≡ y
one_name [] from k x y at there = absurd cc
one_name (key ∷ keys) from k x y at there = go (bytes_eq x key) refl (bytes_eq y key) refl at there (one_name keys (from + 1) k x y)
  where
    go : (b : Bool) → bytes_eq x key ≡ b → (c : Bool) → bytes_eq y key ≡ c
        → cond b (Some from) (position_from (bytes_eq x) (from + 1) keys) ≡ Some k
        → cond c (Some from) (position_from (bytes_eq y) (from + 1) keys) ≡ Some k
        → (position_from (bytes_eq x) (from + 1) keys ≡ Some k → position_from (bytes_eq y) (from + 1) keys ≡ Some k → x ≡ y) → x ≡ y
    go true e true f at there rest = same_name x key e ∙ sym (same_name y key f)
    go true e false f at there rest =
        let same : from ≡ k = cc in let later = no_earlier (bytes_eq y) (from + 1) keys k there in absurd (omega arith)
    go false e true f at there rest =
        let same : from ≡ k = cc in let later = no_earlier (bytes_eq x) (from + 1) keys k at in absurd (omega arith)
    go false e false f at there rest = rest at there

-- ---- keys that are in the list

within_from : {X : Type 0} (p : X → Bool) (from : ℕ) (xs : List X) (k : ℕ) → position_from p from xs ≡ Some k → k < from + length xs
within_from p from [] k is = absurd cc
within_from p from (x ∷ xs) k is = go (p x) is (within_from p (from + 1) xs k)
  where
    go : (b : Bool) → cond b (Some from) (position_from p (from + 1) xs) ≡ Some k
        → (position_from p (from + 1) xs ≡ Some k → k < from + 1 + length xs) → k < from + suc (length xs)
    go true e rest = let same : from ≡ k = cc in omega arith
    go false e rest = let later = rest e in omega arith

-- an index is within the list
pub index_within : (keys : List (List ℕ)) (x : List ℕ) (k : ℕ) → index_of keys x ≡ Some k → k < length keys
index_within keys x k at = let upto = within_from (bytes_eq x) 0 keys k at in omega (arith, upto)

pub index_is : (keys : List (List ℕ)) (x : List ℕ) → has_key keys x ≡ true → index_of keys x ≡ Some (key_index keys x)
index_is keys x there = let w = some_position (bytes_eq x) 0 keys there in w.1 ∙ ap Some (sym (ap (λ o. unwrap_or o 0) w.1))

pub same_index : (keys : List (List ℕ)) (key x : List ℕ) (k : ℕ) → has_key keys key ≡ true → index_of keys x ≡ Some k
    → (key_index keys key == k) ≡ bytes_eq key x
same_index keys key x k there at = go (bytes_eq key x) refl
  where
    go : (b : Bool) → bytes_eq key x ≡ b → (key_index keys key == k) ≡ b
    go true e =
        let same : key_index keys key ≡ k = ap (key_index keys) (same_name key x e) ∙ ap (λ o. unwrap_or o 0) at in
        ap (λ j. j == k) same ∙ numbers_same k
    go false e = ne_eqb (key_index keys key) k (λ same.
        let is : key ≡ x = one_name keys 0 k key x (index_is keys key there ∙ ap Some same) at in
        false≢true (sym e ∙ ap (λ y. bytes_eq y x) is ∙ itself x))

pub other_key : (keys : List (List ℕ)) (key x : List ℕ) → has_key keys key ≡ true → index_of keys x ≡ None → bytes_eq key x ≡ false
other_key keys key x there none = false_from_ne_true (bytes_eq key x) (λ e.
    let found : index_of keys x ≡ Some (key_index keys key) = ap (index_of keys) (sym (same_name key x e)) ∙ index_is keys key there in
    let apart : None ≡ Some (key_index keys key) = sym none ∙ found in cc)

-- an item of a list, and what comes after it
pub behind : {X : Type 0} (xs : List X) (at : ℕ) (x : X) (later : List X) → drop at xs ≡ x ∷ later
    → (at < length xs) × ((d : X) → get_or xs at d ≡ x) × (drop (at + 1) xs ≡ later)
behind [] zero x later is = absurd cc
behind [] (suc at) x later is = absurd cc
behind (y ∷ xs) zero x later is = (omega arith, λ d. ap (λ l. get_or l 0 d) is, ap (drop 1) is)
behind (y ∷ xs) (suc at) x later is =
    let rest = behind xs at x later is in
    let next : suc at + 1 ≡ suc (at + 1) = omega arith in
    (omega (arith, rest.0), rest.1, ap (λ k. drop k (y ∷ xs)) next ∙ rest.2)

-- a key is written again if its index occurs again
pub written_again : (keys : List (List ℕ)) (key : List ℕ) (ops : List Op) → has_key keys key ≡ true → AreKnownIn keys ops
    → list_any (λ k. k == key_index keys key) (indices_put keys ops) ≡ list_any (puts_at key) ops
written_again keys key [] there known = refl
written_again keys key (Get other value ∷ later) there known = written_again keys key later there known
written_again keys key (Put other value ∷ later) there known =
    (λ i. same_index keys other key (key_index keys key) known.0 (index_is keys key there) i || written_again keys key later there known.1 i)

-- ---- found by binary search

sorted_names : (names : List (List ℕ)) → IsStrictlySortedBy name_cmp names → IsSortedBy (λ a b. is_lt (name_cmp a b)) names
sorted_names names sorted k d h i =
    rw (nat_list_cmp_total.antisymm (get_or names (k + 1) d) (get_or names k d), Less-from_sorted name_cmp names k (k + 1) d sorted (omega arith) i) refl

untied : {o : Ordering} → o ≡ Less → o ≡ Equal → ⊥
untied e f = cc

untied_above : {o : Ordering} → o ≡ Greater → o ≡ Equal → ⊥
untied_above e f = cc

-- two indices of sorted names have different names
one_place : (names : List (List ℕ)) (i j : ℕ) (d : List ℕ) → IsStrictlySortedBy name_cmp names → i < length names → j < length names
    → get_or names i d ≡ get_or names j d → j ≡ i
one_place names i j d sorted h k same = elim (cases_order i j) [
  | inl e ↦ sym e
  | inr less ↦ elim less [
    | inl below ↦ (let low = Less-from_sorted name_cmp names i j d sorted below k in absurd (untied (rw same at low) (tied_itself nat_list_cmp_total (get_or names j d))))
    | inr above ↦ (let low = Less-from_sorted name_cmp names j i d sorted above h in absurd (untied (rw same at low) (tied_itself nat_list_cmp_total (get_or names j d))))
  ]
]

-- a key at a number has it as its index
pub numbered_key : (names : List (List ℕ)) (x : List ℕ) (i : ℕ) → IsStrictlySortedBy name_cmp names → IsNumber names x i → index_of names x ≡ Some i
numbered_key names x i sorted number =
    let there : 0 + i ≡ i = omega arith in
    only_position (bytes_eq x) 0 names i [] number.within (ap (bytes_eq x) number.named ∙ itself x)
    (λ j l e. one_place names i j [] sorted number.within l (number.named ∙ same_name x (get_or names j []) e))
    ∙ ap Some there

pub found : (names : List (List ℕ)) (x : List ℕ) (i : ℕ) → IsStrictlySortedBy name_cmp names → i < length names
    → IsBinarySearchResult (λ y. name_cmp y x) names (Ok i) → index_of names x ≡ Some i
found names x i sorted within searched =
    numbered_key names x i sorted (record { within = within; named = exact_bytes (get_or names i []) x (searched []) })

pub missed : (names : List (List ℕ)) (x : List ℕ) (i : ℕ) → IsStrictlySortedBy name_cmp names
    → IsBinarySearchResult (λ y. name_cmp y x) names (Err i) → index_of names x ≡ None
missed names x i sorted searched =
    let point = searched (searchable_from_sorted nat_list_cmp_total (λ y. y) names x (sorted_names names sorted)) in
    no_position (bytes_eq x) 0 names (λ k d h. false_from_ne_true (bytes_eq x (get_or names k d)) (λ e.
    let tie : name_cmp (get_or names k d) x ≡ Equal = rw (sym (same_name x (get_or names k d) e)) (tied_itself nat_list_cmp_total x) in
    elim (cases_lt k i) [
      | inl below ↦ untied (point.0 k d (omega arith) below) tie
      | inr above ↦ untied_above (point.1 k d above h) tie
    ]))

-- ---- the key at an index

position_reached : {X : Type 0} (p : X → Bool) (from : ℕ) (xs : List X) (k : ℕ) → position_from p from xs ≡ Some k
    → (j : ℕ) × (k ≡ from + j) × (j < length xs) × ((d : X) → p (get_or xs j d) ≡ true)
position_reached p from [] k is = absurd cc
position_reached {X} p from (x ∷ xs) k is = go (p x) refl is (position_reached p (from + 1) xs k)
  where
    go : (b : Bool) → p x ≡ b → cond b (Some from) (position_from p (from + 1) xs) ≡ Some k
        → (position_from p (from + 1) xs ≡ Some k → (j : ℕ) × (k ≡ from + 1 + j) × (j < length xs) × ((d : X) → p (get_or xs j d) ≡ true))
        → (j : ℕ) × (k ≡ from + j) × (j < length (x ∷ xs)) × ((d : X) → p (get_or (x ∷ xs) j d) ≡ true)
    go true e is rest = let same : from ≡ k = cc in (0, omega (arith, same), omega arith, λ d. e)
    go false e is rest = let w = rest is in (suc w.0, omega (arith, w.1), omega (arith, w.2), w.3)

-- a key of the list is at its index
pub stands_at : (keys : List (List ℕ)) (x : List ℕ) → has_key keys x ≡ true → IsNumber keys x (key_index keys x)
stands_at keys x there =
    let w = position_reached (bytes_eq x) 0 keys (key_index keys x) (index_is keys x there) in
    let same : w.0 ≡ key_index keys x = omega (arith, w.1) in
    record {
      within = omega (arith, w.1, w.2);
      named = sym (same_name x (get_or keys (key_index keys x) []) (ap (λ j. bytes_eq x (get_or keys j [])) (sym same) ∙ w.3 []));
    }
