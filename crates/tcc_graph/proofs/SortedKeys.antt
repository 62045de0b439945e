-- The keys of a history are in byte order.
use Rattle.std.proofs.Common.{ℕ, ◌≡◌, List, [], ◌∷◌, flat_map, refl}
use Rattle.std.specs.List.{All}
use Rattle.std.specs.Ordering.{nat_cmp}
use Rattle.std.specs.declared.cmp.Ordering.{Ordering}
use Rattle.std.specs.declared.cmp.Ordering.TheVariants.{Less, Equal, Greater}
use Rattle.std.specs.Cmp.Lexicographic.{slice_cmp}
use Rattle.std.specs.List.Sorted.{IsStrictlySortedBy}
use Rattle.std.specs.BTreeSet.{insert_key}
use Rattle.std.proofs.lemmas.Cmp.{nat_list_cmp_total}
use Rattle.std.proofs.lemmas.Map.Keys.{sorted_head, sorted_tail}
use Rattle.std.proofs.lemmas.Map.Views.{All-insert_key}
use Rattle.std.proofs.lemmas.List.Elements.{All-from_recursion, recursion_from_All, All-cons, All-weaker, All-nil}
use Rattle.tcc_reads.specs.History.{History}
use Rattle.tcc_graph.specs.Keys.{keys_of, keys, with_names}

abbrev name_cmp : List ℕ → List ℕ → Ordering
name_cmp = slice_cmp nat_cmp

pub sorted_none : IsStrictlySortedBy name_cmp []
unfolding IsStrictlySortedBy
sorted_none = tt

pub sorted_cons : (x : List ℕ) (xs : List (List ℕ)) → All (λ y. name_cmp x y ≡ Less) xs → IsStrictlySortedBy name_cmp xs → IsStrictlySortedBy name_cmp (x ∷ xs)
unfolding IsStrictlySortedBy
sorted_cons x xs below sorted = (recursion_from_All (λ y. name_cmp x y ≡ Less) xs below, sorted)

pub below_head : (x : List ℕ) (xs : List (List ℕ)) → IsStrictlySortedBy name_cmp (x ∷ xs) → All (λ y. name_cmp x y ≡ Less) xs
below_head x xs sorted = All-from_recursion (λ y. name_cmp x y ≡ Less) xs (sorted_head name_cmp x xs sorted)

insert_sorted : (xs : List (List ℕ)) (k : List ℕ) → IsStrictlySortedBy name_cmp xs → IsStrictlySortedBy name_cmp (insert_key name_cmp xs k)
insert_sorted [] k sorted = sorted_cons k [] (All-nil (λ y. name_cmp k y ≡ Less)) sorted_none
insert_sorted (x ∷ xs) k sorted = go (name_cmp k x) refl (insert_sorted xs k (sorted_tail name_cmp x xs sorted))
  where
    go : (o : Ordering) → name_cmp k x ≡ o → IsStrictlySortedBy name_cmp (insert_key name_cmp xs k)
        → IsStrictlySortedBy name_cmp (insert_key name_cmp (x ∷ xs) k)
    go Less e rest = rw e
        (sorted_cons k (x ∷ xs)
        (All-cons (λ y. name_cmp k y ≡ Less) x xs e
        (All-weaker (λ y. name_cmp x y ≡ Less) (λ y. name_cmp k y ≡ Less) (λ y l. nat_list_cmp_total.trans k x y e l) xs (below_head x xs sorted))) sorted)
    go Equal e rest = rw e sorted
    go Greater e rest =
        let over : name_cmp x k ≡ Less = rw (nat_list_cmp_total.antisymm x k, e) refl in
        rw e (sorted_cons x (insert_key name_cmp xs k) (All-insert_key name_cmp k (λ y. name_cmp x y ≡ Less) xs (below_head x xs sorted) over) rest)

pub with_sorted : (names sorted : List (List ℕ)) → IsStrictlySortedBy name_cmp sorted → IsStrictlySortedBy name_cmp (with_names sorted names)
with_sorted [] sorted h = h
with_sorted (n ∷ names) sorted h = with_sorted names (insert_key name_cmp sorted n) (insert_sorted sorted n h)

pub keys_sorted : (h : History) → IsStrictlySortedBy (slice_cmp nat_cmp) (keys h)
keys_sorted h = with_sorted (flat_map keys_of h.entries) [] sorted_none
