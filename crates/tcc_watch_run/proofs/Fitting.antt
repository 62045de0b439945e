-- What is nested in a snapshot that keeps the limits keeps them, where each of its sessions has something.
use Rattle.std.proofs.Common.{ℕ, zero, suc, ◌≡◌, ◌<◌, ◌≤◌, cond, T, List, [], ◌∷◌, ◌++◌, length, sum_by, Some, refl, ap, subst, ◌∙◌, arith, length-append}
use Rattle.std.specs.Prelude.{Contains, unwrap_or}
use Rattle.std.specs.FinMap.{entries, entries_sorted, get, get-entries, len-entries}
use Rattle.std.specs.FinMap.Entries.{below_all, find, is_sorted}
use Rattle.std.specs.Ordering.{is_eq, is_lt, ordering_reverse}
use Rattle.std.specs.declared.cmp.Ordering.{Ordering}
use Rattle.std.specs.declared.cmp.Ordering.TheVariants.{Less, Equal, Greater}
use Rattle.std.specs.Cmp.Lexicographic.{nat_list_cmp_total}
use Rattle.std.proofs.lemmas.Cmp.{tied_itself}
use Rattle.std.proofs.lemmas.List.Sums.{sum_by-cons}
use Rattle.std.proofs.lemmas.Map.Lookups.{exact_bytes}
use Rattle.tcc_txn.specs.Finished.{IsWithinLimits}
use Rattle.tcc_txn.specs.Nested.{IsNested, list_of}
use Rattle.tcc_txn.specs.Snapshots.{Sessions}
use Rattle.tcc_txn.specs.Transactions.{Transaction}
use Rattle.tcc_txn.specs.declared.limits.Limits.{Limits}
use Rattle.tcc_txn.proofs.Growing.{both-parts, find-absent, less-if}
use Rattle.tcc_txn.proofs.SessionEntries.{Named}
use Rattle.tcc_txn.proofs.SortedParts.{name_cmp}
use Rattle.tcc_watch_run.specs.private.Following.{HasSome}

abbrev size : Named → ℕ
size named = length named.1

-- how many transactions the entry of a name has
abbrev held : List ℕ → List Named → ℕ
held name es = length (unwrap_or (find name_cmp name es) [])

-- each entry has something, and no more than the entry of its name among others
abbrev Fits : List Named → List Named → Type 0
Fits es fs = (e : Named) → Contains es e → (0 < size e) × (size e ≤ held e.0 fs)

-- the names after the first of sorted entries are greater
above : (es : List Named) (name : List ℕ) (e : Named) → T (below_all name_cmp name es) → Contains es e → name_cmp name e.0 ≡ Less
above [] name e below (i, inside, is) = absurd (omega (arith, inside))
above (f ∷ es) name e below (zero, inside, is) =
    subst (λ (z : Named). name_cmp name z.0 ≡ Less) is (less-if (name_cmp name f.0) (both-parts _ (below_all name_cmp name es) below).0)
above (f ∷ es) name e below (suc i, inside, is) = above es name e (both-parts (is_lt (name_cmp name f.0)) _ below).1 (i, omega (arith, inside), is)

-- a greater name than the first has what it has among the others
held_later : (name : List ℕ) (f : Named) (fs : List Named) → name_cmp name f.0 ≡ Greater → held name (f ∷ fs) ≡ held name fs
held_later name f fs greater = ap (λ r. length (unwrap_or (cond (is_eq r) (Some f.1) (find name_cmp name fs)) [])) greater

turned : (a b : List ℕ) → name_cmp a b ≡ Less → name_cmp b a ≡ Greater
turned a b less = nat_list_cmp_total.antisymm b a ∙ ap ordering_reverse less

fewer : (es fs : List Named) → T (is_sorted name_cmp es) → T (is_sorted name_cmp fs) → Fits es fs
    → (length es ≤ length fs) × (sum_by size es ≤ sum_by size fs)
fewer [] fs low high fits = (omega arith, omega arith)
fewer (e ∷ es) [] low high fits = let here = fits e (0, omega arith, refl) in absurd (omega (arith, here.0, here.1))
fewer (e ∷ es) (f ∷ fs) low high fits =
    by (name_cmp e.0 f.0) refl (fewer es fs rising.1 (both-parts _ (is_sorted name_cmp fs) high).1) (fewer (e ∷ es) fs low (both-parts _ (is_sorted name_cmp fs) high).1)
  where
    rising : T (below_all name_cmp e.0 es) × T (is_sorted name_cmp es)
    rising = both-parts (below_all name_cmp e.0 es) (is_sorted name_cmp es) low

    here : (0 < size e) × (size e ≤ held e.0 (f ∷ fs))
    here = fits e (0, omega arith, refl)

    later : (g : Named) → Contains es g → (0 < size g) × (size g ≤ held g.0 (f ∷ fs))
    later g (i, inside, is) = fits g (suc i, omega (arith, inside), is)

    by : (r : Ordering) → name_cmp e.0 f.0 ≡ r → (Fits es fs → (length es ≤ length fs) × (sum_by size es ≤ sum_by size fs))
        → (Fits (e ∷ es) fs → (length (e ∷ es) ≤ length fs) × (sum_by size (e ∷ es) ≤ sum_by size fs))
        → (length (e ∷ es) ≤ length (f ∷ fs)) × (sum_by size (e ∷ es) ≤ sum_by size (f ∷ fs))
    by Less is both one =
        let none : held e.0 (f ∷ fs) ≡ 0
        = ap (λ o. length (unwrap_or o [])) (find-absent e.0 [] (f ∷ fs) high (rw is (omega arith))) in
        absurd (omega (arith, here.0, here.1, none))
    by Equal is both one =
        let found : held e.0 (f ∷ fs) ≡ size f
        = ap (λ r. length (unwrap_or (cond (is_eq r) (Some f.1) (find name_cmp e.0 fs)) [])) is in
        let same : e.0 ≡ f.0 = exact_bytes e.0 f.0 is in
        let rest = both (λ g there. (
          (later g there).0,
          omega (arith, (later g there).1, held_later g.0 f fs (subst (λ (z : List ℕ). name_cmp g.0 z ≡ Greater) same (turned e.0 g.0 (above es e.0 g rising.0 there)))),
        )) in
        (omega (arith, rest.0), omega (arith, rest.1, here.1, found, sum_by-cons size e es, sum_by-cons size f fs))
    by Greater is both one =
        let rest = one (λ g there. (
          (fits g there).0,
          omega (arith, (fits g there).1, held_later g.0 f fs (higher g there)),
        )) in
        (omega (arith, rest.0), omega (arith, rest.1, sum_by-cons size f fs))
      where
        low_first : name_cmp f.0 e.0 ≡ Less
        low_first = nat_list_cmp_total.antisymm f.0 e.0 ∙ ap ordering_reverse is

        higher : (g : Named) → Contains (e ∷ es) g → name_cmp g.0 f.0 ≡ Greater
        higher g (zero, inside, at) = subst (λ (z : Named). name_cmp z.0 f.0 ≡ Greater) at is
        higher g (suc i, inside, at) =
            turned f.0 g.0 (nat_list_cmp_total.trans f.0 e.0 g.0 low_first (above es e.0 g rising.0 (i, omega (arith, inside), at)))

-- an entry is found by its name
found_entry : (es : List Named) (e : Named) → T (is_sorted name_cmp es) → Contains es e → find name_cmp e.0 es ≡ Some e.1
found_entry [] e sorted (i, inside, is) = absurd (omega (arith, inside))
found_entry (f ∷ es) e sorted (zero, inside, is) =
    subst (λ (z : Named). find name_cmp z.0 (f ∷ es) ≡ Some z.1) is
    (ap (λ r. cond (is_eq r) (Some f.1) (find name_cmp f.0 es)) (tied_itself nat_list_cmp_total f.0))
found_entry (f ∷ es) e sorted (suc i, inside, is) =
    let parts = both-parts (below_all name_cmp f.0 es) (is_sorted name_cmp es) sorted in
    let there : Contains es e = (i, omega (arith, inside), is) in
    ap (λ r. cond (is_eq r) (Some f.1) (find name_cmp e.0 es)) (turned f.0 e.0 (above es f.0 e parts.0 there)) ∙ found_entry es e parts.1 there

some-if : (l : List Transaction) → (l ≡ [] → ⊥) → 0 < length l
some-if [] some = absurd (some refl)
some-if (x ∷ l) some = omega arith

pub within_limits : (limits : Limits) (small large : Sessions) → IsNested small large → HasSome small
    → IsWithinLimits limits large → IsWithinLimits limits small
within_limits limits small large nested some within =
    let both = fewer (entries small) (entries large) (entries_sorted small) (entries_sorted large) fits in
    (omega (arith, both.0, within.0, len-entries small, len-entries large), omega (arith, both.1, within.1))
  where
    fits : Fits (entries small) (entries large)
    fits e there =
        let found : get small e.0 ≡ Some e.1 = get-entries small e.0 ∙ found_entry (entries small) e (entries_sorted small) there in
        let (rest, is) = nested e.0 in
        let long : length (list_of large e.0) ≡ length (list_of small e.0 ++ rest) = ap length is in
        let mine : length (list_of small e.0) ≡ size e = ap (λ o. length (unwrap_or o [])) found in
        let other : length (list_of large e.0) ≡ held e.0 (entries large) = ap (λ o. length (unwrap_or o [])) (get-entries large e.0) in (
          some-if e.1 (λ none. some e.0 (found ∙ ap Some none)),
          omega (arith, long, length-append (list_of small e.0) rest, mine, other),
        )
