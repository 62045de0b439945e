-- One more transaction of a session among sorted parts.
use Rattle.std.proofs.Common.{◌≡◌, ℕ, zero, suc, ◌+◌, ◌≤◌, ◌<◌, Bool, true, false, cond, ◌&&◌, T, List, [], ◌∷◌, ◌++◌, length}
use Rattle.std.proofs.Common.{get_or, map, set, sum_by, refl, ap, sym, ◌∙◌, subst, arith, Option, None, Some, Result, Ok, Err}
use Rattle.std.proofs.Common.{length-append, nat_eq}
use Rattle.std.specs.Prelude.{is_some, unwrap_or, OnOk, OnErr, IfErr}
use Rattle.std.proofs.lemmas.Option.{none-some}
use Rattle.std.proofs.Math.Seq.{map-set_same}
use Rattle.std.specs.Cmp.Lexicographic.{pointwise, nat_list_eq_equiv}
use Rattle.std.proofs.lemmas.List.Sums.{sum_by-cons}
use Rattle.std.specs.List.{insert}
use Rattle.std.specs.FinMap.Entries.{below_all, by_order, find, is_sorted, put, length-put}
use Rattle.std.specs.Cmp.Lexicographic.{nat_list_cmp_total}
use Rattle.std.specs.Ordering.{is_lt, is_eq, ordering_reverse}
use Rattle.std.specs.declared.cmp.Ordering.{Ordering}
use Rattle.std.specs.declared.cmp.Ordering.TheVariants.{Less, Equal, Greater}
use Rattle.std.proofs.lemmas.Cmp.{tied_itself}
use Rattle.std.proofs.lemmas.Map.Lookups.{exact_bytes}
use Rattle.tcc_txn.specs.private.SnapshotStorage.{StandsAt, index_in}
use Rattle.tcc_txn.specs.Transactions.{Transaction}
use Rattle.tcc_txn.proofs.SortedParts.{name_cmp, same_names}

pub both-parts : (a b : Bool) → T (a && b) → T a × T b
both-parts true b p = (tt, p)
both-parts false b p = absurd p

pub less-if : (r : Ordering) → T (is_lt r) → r ≡ Less
less-if Less p = refl
less-if Equal p = absurd p
less-if Greater p = absurd p

less-true : (r : Ordering) → is_lt r ≡ true → r ≡ Less
less-true Less p = refl
less-true Equal p = cc
less-true Greater p = cc

-- a name below all names of a list is below each of them
below-at : {X : Type 0} (x : List ℕ) (es : List (List ℕ × X)) (j : ℕ) (d : List ℕ × X) → T (below_all name_cmp x es) → j < length es
    → name_cmp x (get_or es j d).0 ≡ Less
below-at x [] j d below within = absurd (omega arith)
below-at x (e ∷ es) zero d below within = less-if _ (both-parts _ _ below).0
below-at x (e ∷ es) (suc j) d below within = below-at x es j d (both-parts _ _ below).1 (omega arith)

-- in sorted parts those before a session in byte order come first
pub sorted-before : {X : Type 0} (es : List (List ℕ × X)) (session : List ℕ) (i j : ℕ) (d : List ℕ × X) → T (is_sorted name_cmp es)
    → i ≤ j → j < length es → is_lt (name_cmp (get_or es j d).0 session) ≡ true → is_lt (name_cmp (get_or es i d).0 session) ≡ true
sorted-before [] session i j d sorted order within before = absurd (omega arith)
sorted-before (e ∷ es) session zero zero d sorted order within before = before
sorted-before (e ∷ es) session zero (suc j) d sorted order within before =
    ap is_lt (nat_list_cmp_total.trans e.0 (get_or es j d).0 session (below-at e.0 es j d (both-parts _ _ sorted).0 (omega arith)) (less-true _ before))
sorted-before (e ∷ es) session (suc i) zero d sorted order within before = absurd (omega arith)
sorted-before (e ∷ es) session (suc i) (suc j) d sorted order within before =
    sorted-before es session i j d (both-parts _ _ sorted).1 (omega arith) (omega arith) before

-- the index after all parts that are before the session in byte order
pub index_in-is : {X : Type 0} (session : List ℕ) (es : List (List ℕ × X)) (i : ℕ) → i ≤ length es
    → ((k : ℕ) (d : List ℕ × X) → k < i → is_lt (name_cmp (get_or es k d).0 session) ≡ true)
    → ((d : List ℕ × X) → i < length es → is_lt (name_cmp (get_or es i d).0 session) ≡ false) → index_in session es ≡ i
index_in-is session [] i within before after = omega arith
index_in-is session (e ∷ es) zero within before after = rw (after e (omega arith)) refl
index_in-is session (e ∷ es) (suc i) within before after =
    rw (before zero e (omega arith))
    (ap suc (index_in-is session es i (omega arith) (λ k d less. before (suc k) d (omega arith)) (λ d less. after d (omega arith))))

pub index_in-within : {X : Type 0} (session : List ℕ) (es : List (List ℕ × X)) → index_in session es ≤ length es
index_in-within session [] = omega arith
index_in-within session (e ∷ es) =
    elim (is_lt (name_cmp e.0 session)) as (λ b. cond b (suc (index_in session es)) 0 ≤ suc (length es)) [
      | true ↦ (let more = index_in-within session es in omega arith)
      | false ↦ omega arith
    ]

-- a session that has a part: its part is replaced, and is the one that is found
pub put-present : {X : Type 0} (k : List ℕ) (v : X) (es : List (List ℕ × X)) (d : List ℕ × X) → StandsAt es k (index_in k es)
    → (put name_cmp k v es ≡ set es (index_in k es) ((get_or es (index_in k es) d).0, v)) × (find name_cmp k es ≡ Some (get_or es (index_in k es) d).1)
put-present k v [] d = λ stands. absurd (omega (arith, stands.0))
put-present {X} k v (e ∷ es) d = by (name_cmp e.0 k) refl (nat_list_cmp_total.antisymm k e.0) (λ stands. put-present k v es d stands)
  where
    at : Ordering → ℕ
    at r = cond (is_lt r) (suc (index_in k es)) 0

    apart : Greater ≡ Equal → ⊥
    apart e = cc

    by : (r : Ordering) → name_cmp e.0 k ≡ r → name_cmp k e.0 ≡ ordering_reverse (name_cmp e.0 k)
        → (StandsAt es k (index_in k es) → (put name_cmp k v es ≡ set es (index_in k es) ((get_or es (index_in k es) d).0, v))
        × (find name_cmp k es ≡ Some (get_or es (index_in k es) d).1))
        → StandsAt (e ∷ es) k (at r)
        → (by_order (name_cmp k e.0) ((k, v) ∷ e ∷ es) ((e.0, v) ∷ es) (e ∷ put name_cmp k v es) ≡ set (e ∷ es) (at r) ((get_or (e ∷ es) (at r) d).0, v))
        × (cond (is_eq (name_cmp k e.0)) (Some e.1) (find name_cmp k es) ≡ Some (get_or (e ∷ es) (at r) d).1)
    by Less is turned more stands =
        let after = more (omega (arith, stands.0), stands.1) in
        let greater : name_cmp k e.0 ≡ Greater = turned ∙ ap ordering_reverse is in
        (rw greater (ap (λ rest. e ∷ rest) after.0), rw greater after.1)
    by Equal is turned more stands =
        let equal : name_cmp k e.0 ≡ Equal = turned ∙ ap ordering_reverse is in
        (rw equal refl, rw equal refl)
    by Greater is turned more stands =
        let tie : name_cmp e.0 k ≡ Equal = ap (λ name. name_cmp e.0 name) (sym (stands.1 d)) ∙ tied_itself nat_list_cmp_total e.0 in
        absurd (apart (sym is ∙ tie))

-- a session without a part: its part goes to its index
pub put-absent : {X : Type 0} (k : List ℕ) (v : X) (es : List (List ℕ × X)) → (StandsAt es k (index_in k es) → ⊥)
    → put name_cmp k v es ≡ insert es (index_in k es) (k, v)
put-absent k v [] = λ other. refl
put-absent {X} k v (e ∷ es) = by (name_cmp e.0 k) refl (nat_list_cmp_total.antisymm k e.0) (λ other. put-absent k v es other)
  where
    at : Ordering → ℕ
    at r = cond (is_lt r) (suc (index_in k es)) 0

    by : (r : Ordering) → name_cmp e.0 k ≡ r → name_cmp k e.0 ≡ ordering_reverse (name_cmp e.0 k)
        → ((StandsAt es k (index_in k es) → ⊥) → put name_cmp k v es ≡ insert es (index_in k es) (k, v))
        → (StandsAt (e ∷ es) k (at r) → ⊥)
        → by_order (name_cmp k e.0) ((k, v) ∷ e ∷ es) ((e.0, v) ∷ es) (e ∷ put name_cmp k v es) ≡ insert (e ∷ es) (at r) (k, v)
    by Less is turned more other =
        let greater : name_cmp k e.0 ≡ Greater = turned ∙ ap ordering_reverse is in
        rw greater (ap (λ rest. e ∷ rest) (more (λ stands. other (omega (arith, stands.0), stands.1))))
    by Equal is turned more other = absurd (other (omega arith, λ d. exact_bytes e.0 k is))
    by Greater is turned more other =
        let less : name_cmp k e.0 ≡ Less = turned ∙ ap ordering_reverse is in
        rw less refl

none-if : {X : Type 0} (o : Option X) (n : ℕ) → n + 1 ≡ cond (is_some o) n (n + 1) → o ≡ None
none-if None n e = refl
none-if (Some x) n e = absurd (omega arith)

-- no value is found at a key that makes the list longer
pub find-absent : {X : Type 0} (k : List ℕ) (v : X) (es : List (List ℕ × X)) → T (is_sorted name_cmp es)
    → length (put name_cmp k v es) ≡ length es + 1 → find name_cmp k es ≡ None
find-absent k v es sorted longer = none-if (find name_cmp k es) (length es) (sym longer ∙ length-put name_cmp nat_list_cmp_total k v es sorted)

pub length-insert : {X : Type 0} (es : List X) (i : ℕ) (x : X) → length (insert es i x) ≡ length es + 1
length-insert [] zero x = refl
length-insert [] (suc i) x = refl
length-insert (e ∷ es) zero x = omega arith
length-insert (e ∷ es) (suc i) x = let more = length-insert es i x in omega (arith, more)

-- parts with their lists, where X holds these lists
abbrev pub seen : {X : Type 0} → (X → List Transaction) → List (List ℕ × X) → List (List ℕ × List Transaction)
seen {X} f es = map (λ (e : List ℕ × X). (e.0, f e.1)) es

module _ {X : Type 0} (f : X → List Transaction) where
  pub index_in-seen : (session : List ℕ) (es : List (List ℕ × X)) → index_in session (seen f es) ≡ index_in session es
  index_in-seen session [] = refl
  index_in-seen session (e ∷ es) = ap (λ n. cond (is_lt (name_cmp e.0 session)) (suc n) 0) (index_in-seen session es)

  pub length-seen : (es : List (List ℕ × X)) → length (seen f es) ≡ length es
  length-seen [] = refl
  length-seen (e ∷ es) = ap suc (length-seen es)

  pub seen-set : (es : List (List ℕ × X)) (i : ℕ) (name : List ℕ) (v : X) → seen f (set es i (name, v)) ≡ set (seen f es) i (name, f v)
  seen-set [] i name v = refl
  seen-set (e ∷ es) zero name v = refl
  seen-set (e ∷ es) (suc i) name v = ap (λ rest. (e.0, f e.1) ∷ rest) (seen-set es i name v)

  pub seen-insert : (es : List (List ℕ × X)) (i : ℕ) (name : List ℕ) (v : X) → seen f (insert es i (name, v)) ≡ insert (seen f es) i (name, f v)
  seen-insert [] zero name v = refl
  seen-insert [] (suc i) name v = refl
  seen-insert (e ∷ es) zero name v = refl
  seen-insert (e ∷ es) (suc i) name v = ap (λ rest. (e.0, f e.1) ∷ rest) (seen-insert es i name v)

  below_all-seen : (name : List ℕ) (es : List (List ℕ × X)) → below_all name_cmp name (seen f es) ≡ below_all name_cmp name es
  below_all-seen name [] = refl
  below_all-seen name (e ∷ es) = ap (λ b. is_lt (name_cmp name e.0) && b) (below_all-seen name es)

  pub is_sorted-seen : (es : List (List ℕ × X)) → is_sorted name_cmp (seen f es) ≡ is_sorted name_cmp es
  is_sorted-seen [] = refl
  is_sorted-seen (e ∷ es) = λ i. below_all-seen e.0 es i && is_sorted-seen es i

  get_or-seen : (es : List (List ℕ × X)) (at : ℕ) (part : List ℕ × X) (d : List ℕ × List Transaction) → at < length es
      → part ≡ get_or es at part → get_or (seen f es) at d ≡ (part.0, f part.1)
  get_or-seen [] at part d within is = absurd (omega arith)
  get_or-seen (e ∷ es) zero part d within is = ap (λ (p : List ℕ × X). (p.0, f p.1)) (sym is)
  get_or-seen (e ∷ es) (suc at) part d within is = get_or-seen es at part d (omega arith) is

  same_at : (es : List (List ℕ × X)) (at : ℕ) (d e : List ℕ × X) → at < length es → get_or es at d ≡ get_or es at e
  same_at [] at d e within = absurd (omega (arith, within))
  same_at (x ∷ es) zero d e within = refl
  same_at (x ∷ es) (suc at) d e within = same_at es at d e (omega (arith, within))

  -- the session's part is at the index, whether its transactions are seen through X or not
  pub stands-seen : (es : List (List ℕ × X)) (session : List ℕ) (at : ℕ) → StandsAt es session at → StandsAt (seen f es) session at
  stands-seen [] session at stands = absurd (omega (arith, stands.0))
  stands-seen (e ∷ es) session at stands =
      let part : List ℕ × X = get_or (e ∷ es) at e in
      let is : part ≡ get_or (e ∷ es) at part = same_at (e ∷ es) at e part stands.0 in
      (omega (arith, stands.0, length-seen (e ∷ es)), λ d. ap (λ p. p.0) (get_or-seen (e ∷ es) at part d stands.0 is) ∙ stands.1 e)

  pub stands-unseen : (es : List (List ℕ × X)) (session : List ℕ) (at : ℕ) → StandsAt (seen f es) session at → StandsAt es session at
  stands-unseen es session at stands =
      let within : at < length es = omega (arith, stands.0, length-seen es) in
      (within, λ d. ap (λ p. p.0) (sym (get_or-seen es at (get_or es at d) (d.0, f d.1) within (same_at es at d (get_or es at d) within))) ∙ stands.1 (d.0, f d.1))

-- one more transaction among those of all sessions
pub count-put : (k : List ℕ) (txn : Transaction) (es : List (List ℕ × List Transaction)) → T (is_sorted name_cmp es)
    → sum_by (λ part. length part.1) (put name_cmp k (unwrap_or (find name_cmp k es) [] ++ txn ∷ []) es) ≡ sum_by (λ part. length part.1) es + 1
count-put k txn [] sorted = refl
count-put k txn (e ∷ es) sorted = by (name_cmp k e.0) refl (λ rest. count-put k txn es rest)
  where
    size : List ℕ × List Transaction → ℕ
    size part = length part.1

    none : name_cmp k e.0 ≡ Less → find name_cmp k (e ∷ es) ≡ None
    none less = find-absent k [] (e ∷ es) sorted (rw less (omega arith))

    list : List Transaction
    list = unwrap_or (find name_cmp k es) [] ++ txn ∷ []

    put-later : (v : List Transaction) → name_cmp k e.0 ≡ Greater → put name_cmp k v (e ∷ es) ≡ e ∷ put name_cmp k v es
    put-later v greater = rw greater refl

    find-later : name_cmp k e.0 ≡ Greater → find name_cmp k (e ∷ es) ≡ find name_cmp k es
    find-later greater = rw greater refl

    later : name_cmp k e.0 ≡ Greater → put name_cmp k (unwrap_or (find name_cmp k (e ∷ es)) [] ++ txn ∷ []) (e ∷ es) ≡ e ∷ put name_cmp k list es
    later greater = put-later (unwrap_or (find name_cmp k (e ∷ es)) [] ++ txn ∷ []) greater
        ∙ ap (λ found. e ∷ put name_cmp k (unwrap_or found [] ++ txn ∷ []) es) (find-later greater)

    by : (r : Ordering) → name_cmp k e.0 ≡ r
        → (T (is_sorted name_cmp es) → sum_by size (put name_cmp k list es) ≡ sum_by size es + 1)
        → sum_by size (put name_cmp k (unwrap_or (find name_cmp k (e ∷ es)) [] ++ txn ∷ []) (e ∷ es)) ≡ sum_by size (e ∷ es) + 1
    by Less is more =
        rw (none is) (rw is (sum_by-cons size (k, txn ∷ []) (e ∷ es) ∙ omega arith))
    by Equal is more =
        rw is (sum_by-cons size (e.0, e.1 ++ txn ∷ []) es ∙ omega (arith, length-append e.1 (txn ∷ []), sum_by-cons size e es))
    by Greater is more =
        let after = more (both-parts _ _ sorted).1 in
        ap (sum_by size) (later is) ∙ (sum_by-cons size e (put name_cmp k list es) ∙ omega (arith, after, sum_by-cons size e es))

-- the part that was examined is the session's, or is not
pub stands-here : {X : Type 0} (es : List (List ℕ × X)) (at : ℕ) (part : List ℕ × X) (session : List ℕ) → at < length es
    → part ≡ get_or es at part → pointwise nat_eq part.0 session ≡ true → StandsAt es session at
stands-here {X} es at part session within is same =
    (within, λ d. ap (λ (p : List ℕ × X). p.0) (same_at (λ _. []) es at d part within ∙ sym is) ∙ same_names part.0 session same)

pub stands-not-here : {X : Type 0} (es : List (List ℕ × X)) (at : ℕ) (part : List ℕ × X) (session : List ℕ) → at < length es
    → part ≡ get_or es at part → pointwise nat_eq part.0 session ≡ false → StandsAt es session at → ⊥
stands-not-here {X} es at part session within is other stands =
    let here : part.0 ≡ session = ap (λ (p : List ℕ × X). p.0) is ∙ stands.1 part in
    let same : pointwise nat_eq part.0 session ≡ true = ap (pointwise nat_eq part.0) (sym here) ∙ nat_list_eq_equiv.refl part.0 in
    cc

module _ {X : Type 0} (f : X → List Transaction) (es : List (List ℕ × X)) (k : List ℕ) (at : ℕ) where
  index-seen : at ≡ index_in k es → at ≡ index_in k (seen f es)
  index-seen index = index ∙ sym (index_in-seen f k es)

  -- one more transaction in the session's part
  pub written : (txn : Transaction) (part : List ℕ × X) (new : X) → at ≡ index_in k es → StandsAt es k at
      → part ≡ get_or es at part → f new ≡ f part.1 ++ txn ∷ []
      → seen f (set es at (part.0, new)) ≡ put name_cmp k (unwrap_or (find name_cmp k (seen f es)) [] ++ txn ∷ []) (seen f es)
  written txn part new index stands is longer =
      let d : List ℕ × List Transaction = (part.0, f part.1) in
      let here : get_or (seen f es) at d ≡ d = get_or-seen f es at part d stands.0 is in
      let present = put-present k (unwrap_or (find name_cmp k (seen f es)) [] ++ txn ∷ []) (seen f es) d
      (subst (StandsAt (seen f es) k) (index-seen index) (stands-seen f es k at stands)) in
      let found : find name_cmp k (seen f es) ≡ Some (f part.1) =
      present.1 ∙ ap (λ i. Some (get_or (seen f es) i d).1) (sym (index-seen index)) ∙ ap (λ p. Some p.1) here in
      seen-set f es at part.0 new
      ∙ ap (λ items. set (seen f es) at (part.0, items)) (longer ∙ ap (λ o. unwrap_or o [] ++ txn ∷ []) (sym found))
      ∙ ap (λ p. set (seen f es) at (p.0, unwrap_or (find name_cmp k (seen f es)) [] ++ txn ∷ [])) (sym here)
      ∙ ap (λ i. set (seen f es) i ((get_or (seen f es) i d).0, unwrap_or (find name_cmp k (seen f es)) [] ++ txn ∷ [])) (index-seen index)
      ∙ sym present.0

  -- the part is as it was
  pub unwritten : (part : List ℕ × X) (new : X) → part ≡ get_or es at part → f new ≡ f part.1 → seen f (set es at (part.0, new)) ≡ seen f es
  unwritten part new is same =
      map-set_same (λ (p : List ℕ × X). (p.0, f p.1)) es at (part.0, new) part
      (ap (λ items. (part.0, items)) same ∙ ap (λ (p : List ℕ × X). (p.0, f p.1)) is)

  pub found-here : at ≡ index_in k es → StandsAt es k at → find name_cmp k (seen f es) ≡ None → ⊥
  found-here index stands none =
      let present = put-present k [] (seen f es) ([], []) (subst (StandsAt (seen f es) k) (index-seen index) (stands-seen f es k at stands)) in
      none-some _ (sym none ∙ present.1)

  absent-seen : at ≡ index_in k es → (StandsAt es k at → ⊥) → StandsAt (seen f es) k (index_in k (seen f es)) → ⊥
  absent-seen index other stands = other (stands-unseen f es k at (subst (StandsAt (seen f es) k) (sym (index-seen index)) stands))

  -- no part is the session's
  pub missing : at ≡ index_in k es → T (is_sorted name_cmp es) → (StandsAt es k at → ⊥) → find name_cmp k (seen f es) ≡ None
  missing index sorted other =
      let absent = put-absent k [] (seen f es) (absent-seen index other) in
      find-absent k [] (seen f es) (subst T (sym (is_sorted-seen f es)) sorted)
      (ap length absent ∙ length-insert (seen f es) (index_in k (seen f es)) (k, []))

  pub inserted : (txn : Transaction) → at ≡ index_in k es → T (is_sorted name_cmp es) → (StandsAt es k at → ⊥)
      → insert (seen f es) at (k, txn ∷ []) ≡ put name_cmp k (unwrap_or (find name_cmp k (seen f es)) [] ++ txn ∷ []) (seen f es)
  inserted txn index sorted other =
      rw (missing index sorted other) (ap (λ i. insert (seen f es) i (k, txn ∷ [])) (index-seen index)
      ∙ sym (put-absent k (txn ∷ []) (seen f es) (absent-seen index other)))

pub ok-then : {A E : Type 0} {P Q : Type 0} (r : Result A E) → (P → Q) → OnOk r P → OnOk r Q
ok-then (Ok a) f p = f p
ok-then (Err e) f p = tt

pub err-then : {A E : Type 0} {P Q : Type 0} (r : Result A E) → (P → Q) → OnErr r P → OnErr r Q
err-then (Ok a) f p = tt
err-then (Err e) f p = f p

pub if-err-then : {A E : Type 0} {P Q : E → Type 0} (r : Result A E) → ((e : E) → P e → Q e) → IfErr r P → IfErr r Q
if-err-then (Ok a) f p = tt
if-err-then (Err e) f p = f e p

pub ok-always : {A E : Type 0} {P : Type 0} (r : Result A E) → P → OnOk r P
ok-always (Ok a) p = p
ok-always (Err e) p = tt

pub err-always : {A E : Type 0} {P : Type 0} (r : Result A E) → P → OnErr r P
err-always (Ok a) p = tt
err-always (Err e) p = p
