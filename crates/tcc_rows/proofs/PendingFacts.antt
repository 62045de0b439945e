-- The set of written values that nobody has read, from one step to the next.
use Rattle.std.proofs.Common.{◌≡◌, ℕ, zero, suc, ◌+◌, ◌<◌, ◌≤◌, Bool, true, false, cond, not, ◌&&◌, ◌||◌, List, [], ◌∷◌, drop, length, filter, Option, None, Some}
use Rattle.std.proofs.Common.{◌++◌, append_assoc, refl, sym, ap, subst, ◌∙◌, arith}
use Rattle.std.specs.Prelude.{◌==◌, slice_get}
use Rattle.std.specs.BTreeMap.{is_at}
use Rattle.std.specs.List.{list_any}
use Rattle.std.specs.Option.{option_map_or}
use Rattle.std.specs.Ordering.{is_eq, nat_cmp, ordering_then}
use Rattle.std.specs.Cmp.{nat_eq_equiv, unsigned_tied}
use Rattle.std.specs.Cmp.Lexicographic.{nat_list_eq_equiv, slice_cmp, texts_ties}
use Rattle.std.specs.declared.cmp.Ordering.{Ordering}
use Rattle.std.specs.declared.cmp.Ordering.TheVariants.{Less, Equal, Greater}
use Rattle.std.proofs.lemmas.List.{at_drop_more}
use Rattle.std.proofs.lemmas.Option.{get_or_from_slice_get, slice_get_within}
use Rattle.tcc_txn.specs.Bytes.{same}
use Rattle.tcc_rows.specs.Followed.{Follows, IsFollowed, WrittenSet, holds, is_written, puts, written_cmp}
use Rattle.tcc_rows.specs.Settling.{Pending, gets, is_read, is_read_by, is_read_in, is_seen, is_seen_write, seen_among, unseen_among}
use Rattle.tcc_rows.specs.private.Unread.{LeavesRest, Strikes, is_among}
use Rattle.tcc_rows.specs.declared.pending.PendingValues.{PendingValues}
use Rattle.tcc_txn.specs.Finished.{with_transaction}
use Rattle.tcc_txn.specs.Snapshots.{Sessions, listed_at}
use Rattle.tcc_txn.specs.Transactions.{Transaction}
use Rattle.tcc_txn.specs.declared.op.Op.{Op}
use Rattle.tcc_txn.specs.declared.op.Op.TheVariants.{Get, Put}
use Rattle.tcc_rows.proofs.PastFacts.{same-name}
use Rattle.std.proofs.lemmas.Bool.Decides.{nat_tests}
use Rattle.tcc_rows.proofs.ReadsFacts.{read-with}

then_tied : (a b : Ordering) → is_eq (ordering_then a b) ≡ (is_eq a && is_eq b)
then_tied Less b = refl
then_tied Equal b = refl
then_tied Greater b = refl

-- a key with a value is found if both parts are equal
pub written-tie : (a b : List ℕ × ℕ) → is_eq (written_cmp a b) ≡ (same a.0 b.0 && (a.1 == b.1))
written-tie a b = then_tied (slice_cmp nat_cmp a.0 b.0) (nat_cmp a.1 b.1) ∙ (λ i. sym (texts_ties a.0 b.0) i && unsigned_tied a.1 b.1 i)

pub added : (here there : Bool) → cond here true there ≡ (here || there)
added true there = refl
added false there = refl

-- a value taken out of a set
pub struck-out : (here there : Bool) → cond here false there ≡ (there && not here)
struck-out true true = refl
struck-out true false = refl
struck-out false true = refl
struck-out false false = refl

-- a value that was there is found, and one that wasn't is not
pub found-there : (here found there : Bool) → (here ≡ true → there ≡ true) → cond here true found ≡ (found || (there && here))
found-there true true there at = refl
found-there true false there at = rw (at refl) refl
found-there false true there at = refl
found-there false false true at = refl
found-there false false false at = refl

pub found-nowhere : (here found there : Bool) → (here ≡ true → there ≡ false) → found ≡ (found || (there && here))
found-nowhere here true there at = refl
found-nowhere true false there at = rw (at refl) refl
found-nowhere false false true at = refl
found-nowhere false false false at = refl

-- an operation of a value is one of just that value
pub put-is : (key : List ℕ) (value : ℕ) (w : List ℕ × ℕ) → (same key w.0 && (value == w.1)) ≡ true → (key, value) ≡ w
put-is key value w at = by (same key w.0) (value == w.1) refl refl at
  where
    by : (a b : Bool) → same key w.0 ≡ a → (value == w.1) ≡ b → (a && b) ≡ true → (key, value) ≡ w
    by true true e f at =
        let keys = same-name key w.0 e in
        let values : value ≡ w.1 = grind (arith, nat_tests, f) in
        λ i. (keys i, values i)
    by true false e f at = cc at
    by false b e f at = cc at

-- the value that is taken out of a set, and whether it was there
pub strikes-there : (old new : PendingValues) (key : List ℕ) (value : ℕ) → holds old.unread (key, value) ≡ true
    → ((w : List ℕ × ℕ) → holds new.unread w ≡ cond (is_eq (written_cmp (key, value) w)) false (holds old.unread w))
    → ((w : List ℕ × ℕ) → holds new.found w ≡ cond (is_eq (written_cmp (key, value) w)) true (holds old.found w))
    → Strikes (λ w. gets w (Get key value)) old new
strikes-there old new key value there struck found = record {
  unread = λ w.
      struck w ∙ ap (λ b. cond b false (holds old.unread w)) (written-tie (key, value) w)
      ∙ struck-out (same key w.0 && (value == w.1)) (holds old.unread w);
  found = λ w.
      found w ∙ ap (λ b. cond b true (holds old.found w)) (written-tie (key, value) w)
      ∙ found-there (same key w.0 && (value == w.1)) (holds old.found w) (holds old.unread w) (λ e. ap (holds old.unread) (sym (put-is key value w e)) ∙ there);
}

pub strikes-nowhere : (old new : PendingValues) (key : List ℕ) (value : ℕ) → holds old.unread (key, value) ≡ false
    → ((w : List ℕ × ℕ) → holds new.unread w ≡ cond (is_eq (written_cmp (key, value) w)) false (holds old.unread w))
    → new.found ≡ old.found → Strikes (λ w. gets w (Get key value)) old new
strikes-nowhere old new key value there struck same_found = record {
  unread = λ w.
      struck w ∙ ap (λ b. cond b false (holds old.unread w)) (written-tie (key, value) w)
      ∙ struck-out (same key w.0 && (value == w.1)) (holds old.unread w);
  found = λ w.
      ap (λ set. holds set w) same_found
      ∙ found-nowhere (same key w.0 && (value == w.1)) (holds old.found w) (holds old.unread w) (λ e. ap (holds old.unread) (sym (put-is key value w e)) ∙ there);
}

-- a set without keys holds nothing
pub no-keys : (set : WrittenSet) → length set.keys ≡ 0 → (w : List ℕ × ℕ) → holds set w ≡ false
no-keys set none w = ap (list_any (is_at (written_cmp w))) (no-elements set.keys none)
  where
    no-elements : (xs : List (List ℕ × ℕ)) → length xs ≡ 0 → xs ≡ []
    no-elements [] e = refl
    no-elements (x ∷ xs) e = absurd (omega (arith, e))

-- one more is noted
pub noted-more : (first rest before : Bool) → (rest || (first || before)) ≡ ((first || rest) || before)
noted-more true true before = refl
noted-more true false before = refl
noted-more false true before = refl
noted-more false false before = refl

-- a list from an index on begins with the element at that index
pub begins : {X Y : Type 0} (f : List X → Y) (xs : List X) (i : ℕ) (x : X) → slice_get xs i ≡ Some x → f (drop i xs) ≡ f (x ∷ drop (i + 1) xs)
begins f xs i x at =
    at_drop_more f xs i x (slice_get_within xs i x at) ∙ ap (λ o. f (o ∷ drop (i + 1) xs)) (get_or_from_slice_get xs i x x at)

-- a list ends at its length
pub drop-past : {X : Type 0} (xs : List X) (i : ℕ) → length xs ≤ i → drop i xs ≡ []
drop-past [] zero h = refl
drop-past [] (suc i) h = refl
drop-past (x ∷ xs) zero h = absurd (omega (arith, h))
drop-past (x ∷ xs) (suc i) h = drop-past xs i (omega (arith, h))

-- there is an element at an index below the length
pub none-past : {X : Type 0} (xs : List X) (i : ℕ) → slice_get xs i ≡ None → i < length xs → ⊥
none-past [] i none inside = absurd (omega (arith, inside))
none-past (x ∷ xs) zero none inside = absurd (cc none)
none-past (x ∷ xs) (suc i) none inside = none-past xs i none (omega (arith, inside))

-- ---- values struck out one after the other

leaves-all : (all : List ℕ × ℕ → Bool) (old : PendingValues) → LeavesRest all all old old
leaves-all all old = record { unread = λ w. refl; found = λ w. refl }

-- those of a test are struck out, and the rest is less by them
pub leaves-less : (all rest test less : List ℕ × ℕ → Bool) (old now new : PendingValues) → LeavesRest all rest old now
    → ((w : List ℕ × ℕ) → rest w ≡ (test w || less w)) → Strikes test now new → LeavesRest all less old new
leaves-less all rest test less old now new before parts struck = record {
  unread = λ w.
      rw (struck.unread w) (unread (holds now.unread w) (test w) (less w) ∙ ap (λ b. holds now.unread w && not b) (sym (parts w)) ∙ before.unread w);
  found = λ w.
      rw (struck.unread w, struck.found w) (found (holds now.found w) (holds now.unread w) (test w) (less w)
      ∙ ap (λ b. holds now.found w || (holds now.unread w && b)) (sym (parts w)) ∙ before.found w);
}
  where
    unread : (u t l : Bool) → ((u && not t) && not l) ≡ (u && not (t || l))
    unread true true l = refl
    unread true false l = refl
    unread false t l = refl

    found : (f u t l : Bool) → ((f || (u && t)) || ((u && not t) && l)) ≡ (f || (u && (t || l)))
    found true u t l = refl
    found false true true l = refl
    found false true false l = refl
    found false false t l = refl

-- nothing is left
pub leaves-none : (all rest : List ℕ × ℕ → Bool) (old now : PendingValues) → LeavesRest all rest old now → ((w : List ℕ × ℕ) → rest w ≡ false)
    → Strikes all old now
leaves-none all rest old now before none = record {
  unread = λ w. unread (holds now.unread w) (rest w) (none w) ∙ before.unread w;
  found = λ w. found (holds now.found w) (holds now.unread w) (rest w) (none w) ∙ before.found w;
}
  where
    unread : (u r : Bool) → r ≡ false → u ≡ (u && not r)
    unread true true e = cc e
    unread true false e = refl
    unread false r e = refl

    found : (f u r : Bool) → r ≡ false → f ≡ (f || (u && r))
    found true u r e = refl
    found false true true e = cc e
    found false true false e = refl
    found false false r e = refl

-- nothing passes a test that nothing passes
pub strikes-none : (test : List ℕ × ℕ → Bool) (old : PendingValues) → ((w : List ℕ × ℕ) → test w ≡ false) → Strikes test old old
strikes-none test old none = leaves-none test test old old (leaves-all test old) none

-- the transactions of a session, and of the others
pub any-session : (w : List ℕ × ℕ) (es : List (List ℕ × List Transaction)) (i : ℕ) → i < length es
    → list_any (is_read_in w) (drop i es) ≡ (list_any (is_read_by w) (listed_at es i) || list_any (is_read_in w) (drop (i + 1) es))
any-session w es i inside = by (slice_get es i) refl
  where
    by : (found : Option (List ℕ × List Transaction)) → slice_get es i ≡ found
        → list_any (is_read_in w) (drop i es) ≡ (list_any (is_read_by w) (listed_at es i) || list_any (is_read_in w) (drop (i + 1) es))
    by None at = absurd (none-past es i at inside)
    by (Some named) at =
        begins (list_any (is_read_in w)) es i named at
        ∙ ap (λ o. list_any (is_read_by w) (option_map_or (λ named. named.1) o []) || list_any (is_read_in w) (drop (i + 1) es)) (sym at)

-- ---- what is kept of pending values

-- a written value was read exactly if it was found
follows-read : (s : Sessions) (pending : Pending) (values : PendingValues) (w : List ℕ × ℕ) → Follows s pending values → is_written pending w ≡ true
    → holds values.found w ≡ is_read s w
follows-read s pending values w follows here =
    by (holds values.unread w) (holds values.found w) (is_read s w) (follows.unread w) (follows.found w) (follows.covered w here)
  where
    by : (u f r : Bool) → (u ≡ true → r ≡ false) → (f ≡ true → r ≡ true) → (u || f) ≡ true → f ≡ r
    by u true r unread found covered = sym (found refl)
    by true false r unread found covered = sym (unread refl)
    by false false r unread found covered = cc covered

-- what the pending transactions wrote, less what was read
pub follows-struck : (s : Sessions) (pending : Pending) (all values : PendingValues) → ((w : List ℕ × ℕ) → holds all.unread w ≡ is_written pending w)
    → ((w : List ℕ × ℕ) → holds all.found w ≡ false) → Strikes (is_read s) all values → Follows s pending values
follows-struck s pending all values noted none struck = record {
  unread = λ w e. unread (holds all.unread w) (is_read s w) (sym (struck.unread w) ∙ e);
  found = λ w e. found (holds all.found w) (holds all.unread w) (is_read s w) (none w) (sym (struck.found w) ∙ e);
  covered = λ w here.
      rw (struck.unread w, struck.found w) (covered (holds all.found w) (holds all.unread w) (is_read s w) (noted w ∙ here));
}
  where
    unread : (u r : Bool) → (u && not r) ≡ true → r ≡ false
    unread true true e = cc e
    unread true false e = refl
    unread false r e = cc e

    found : (f u r : Bool) → f ≡ false → (f || (u && r)) ≡ true → r ≡ true
    found true u r none e = cc none
    found false true r none e = e
    found false false r none e = cc e

    covered : (f u r : Bool) → u ≡ true → ((u && not r) || (f || (u && r))) ≡ true
    covered f true true e = by f
      where
        by : (f : Bool) → (false || (f || true)) ≡ true
        by true = refl
        by false = refl
    covered f true false e = refl
    covered f false r e = cc e

-- one more transaction is finished, and what it reads is struck out
pub follows-finished : (s : Sessions) (pending : Pending) (session : List ℕ) (txn : Transaction) (old new : PendingValues) → Strikes (λ w. is_read_by w txn) old new
    → Follows s pending old → Follows (with_transaction s session txn) pending new
follows-finished s pending session txn old new struck follows = record {
  unread = λ w e.
      read-with w s session txn
      ∙ unread (holds old.unread w) (is_read s w) (is_read_by w txn) (follows.unread w) (sym (struck.unread w) ∙ e);
  found = λ w e.
      read-with w s session txn
      ∙ found (holds old.found w) (holds old.unread w) (is_read s w) (is_read_by w txn) (follows.found w) (sym (struck.found w) ∙ e);
  covered = λ w here.
      rw (struck.unread w, struck.found w) (covered (holds old.found w) (holds old.unread w) (is_read_by w txn) (follows.covered w here));
}
  where
    unread : (u r t : Bool) → (u ≡ true → r ≡ false) → (u && not t) ≡ true → (r || t) ≡ false
    unread true r true before e = cc e
    unread true true false before e = before refl
    unread true false false before e = refl
    unread false r t before e = cc e

    found : (f u r t : Bool) → (f ≡ true → r ≡ true) → (f || (u && t)) ≡ true → (r || t) ≡ true
    found true u r t before e = ap (λ b. b || t) (before refl)
    found false true true t before e = refl
    found false true false t before e = e
    found false false r t before e = cc e

    covered : (f u t : Bool) → (u || f) ≡ true → ((u && not t) || (f || (u && t))) ≡ true
    covered true true true e = refl
    covered true true false e = refl
    covered true false t e = refl
    covered false true true e = refl
    covered false true false e = refl
    covered false false t e = cc e

-- the same by the operations of one that was committed
pub follows-committed : (s : Sessions) (pending : Pending) (session : List ℕ) (txn : Transaction) (old new : PendingValues) → txn.committed ≡ true
    → Strikes (λ w. list_any (gets w) txn.ops) old new → Follows s pending old → Follows (with_transaction s session txn) pending new
follows-committed s pending session txn old new committed struck =
    follows-finished s pending session txn old new
    (subst (λ (test : List ℕ × ℕ → Bool). Strikes test old new) (λ i w. sym (ap (λ b. b && list_any (gets w) txn.ops) committed) i) struck)

-- one that was aborted reads nothing
pub follows-aborted : (s : Sessions) (pending : Pending) (session : List ℕ) (txn : Transaction) (values : Option PendingValues) → txn.committed ≡ false
    → IsFollowed s pending values → IsFollowed (with_transaction s session txn) pending values
follows-aborted s pending session txn None aborted follows = tt
follows-aborted s pending session txn (Some values) aborted follows =
    follows-finished s pending session txn values values
    (strikes-none (λ w. is_read_by w txn) values (λ w. ap (λ b. b && list_any (gets w) txn.ops) aborted)) follows

-- a transaction writes a value that was found exactly if a value of it was read
found-seen : (s : Sessions) (found : WrittenSet) (ops : List Op) → ((w : List ℕ × ℕ) → list_any (puts w) ops ≡ true → holds found w ≡ is_read s w)
    → list_any (is_among found) ops ≡ list_any (is_seen_write s) ops
found-seen s found [] known = refl
found-seen s found (Get key value ∷ ops) known = found-seen s found ops known
found-seen s found (Put key value ∷ ops) known =
    λ i. first i || found-seen s found ops (λ w later. known w (also (puts w (Put key value)) (list_any (puts w) ops) later)) i
  where
    also : (a b : Bool) → b ≡ true → (a || b) ≡ true
    also true b e = refl
    also false b e = e

    itself : puts (key, value) (Put key value) ≡ true
    itself = rw (nat_list_eq_equiv.refl key, nat_eq_equiv.refl value) refl

    first : holds found (key, value) ≡ is_read s (key, value)
    first = known (key, value) (ap (λ b. b || list_any (puts (key, value)) ops) itself)

-- the same of each pending transaction
abbrev Knows : Sessions → WrittenSet → Pending → Type 0
Knows s found pending = (w : List ℕ × ℕ) → is_written pending w ≡ true → holds found w ≡ is_read s w

knows-first : (s : Sessions) (found : WrittenSet) (p : List ℕ × Transaction) (ps : Pending) → Knows s found (p ∷ ps)
    → list_any (is_among found) p.1.ops ≡ is_seen s p.1
knows-first s found p ps knows = found-seen s found p.1.ops (λ w here. knows w (ap (λ b. b || is_written ps w) here))

knows-rest : (s : Sessions) (found : WrittenSet) (p : List ℕ × Transaction) (ps : Pending) → Knows s found (p ∷ ps) → Knows s found ps
knows-rest s found p ps knows w here = knows w (also (list_any (puts w) p.1.ops) (is_written ps w) here)
  where
    also : (a b : Bool) → b ≡ true → (a || b) ≡ true
    also true b e = refl
    also false b e = e

found-among : (s : Sessions) (found : WrittenSet) (pending : Pending) → Knows s found pending
    → filter (λ p. list_any (is_among found) p.1.ops) pending ≡ seen_among s pending
found-among s found [] knows = refl
found-among s found (p ∷ ps) knows =
    λ i. cond (knows-first s found p ps knows i) (p ∷ found-among s found ps (knows-rest s found p ps knows) i) (found-among s found ps (knows-rest s found p ps knows) i)

unfound-among : (s : Sessions) (found : WrittenSet) (pending : Pending) → Knows s found pending
    → filter (λ p. not (list_any (is_among found) p.1.ops)) pending ≡ unseen_among s pending
unfound-among s found [] knows = refl
unfound-among s found (p ∷ ps) knows =
    λ i. cond (not (knows-first s found p ps knows i)) (p ∷ unfound-among s found ps (knows-rest s found p ps knows) i) (unfound-among s found ps (knows-rest s found p ps knows) i)

-- what is found tells those of which a value was read
pub separates : (s : Sessions) (pending : Pending) (values : PendingValues) → Follows s pending values
    → (filter (λ p. list_any (is_among values.found) p.1.ops) pending ≡ seen_among s pending)
    × (filter (λ p. not (list_any (is_among values.found) p.1.ops)) pending ≡ unseen_among s pending)
separates s pending values follows =
    let knows : Knows s values.found pending = λ w here. follows-read s pending values w follows here in
    (found-among s values.found pending knows, unfound-among s values.found pending knows)

nothing-among : (found : WrittenSet) → ((w : List ℕ × ℕ) → holds found w ≡ false) → (ops : List Op) → list_any (is_among found) ops ≡ false
nothing-among found none [] = refl
nothing-among found none (Get key value ∷ ops) = nothing-among found none ops
nothing-among found none (Put key value ∷ ops) = λ i. none (key, value) i || nothing-among found none ops i

-- nothing is found, so no value was read
pub none-found : (s : Sessions) (pending : Pending) (values : PendingValues) → ((w : List ℕ × ℕ) → holds values.found w ≡ false) → Follows s pending values
    → (seen_among s pending ≡ []) × (unseen_among s pending ≡ pending)
none-found s pending values none follows = (sym (separates s pending values follows).0 ∙ seen pending, sym (separates s pending values follows).1 ∙ unseen pending)
  where
    seen : (ps : Pending) → filter (λ p. list_any (is_among values.found) p.1.ops) ps ≡ []
    seen [] = refl
    seen (p ∷ ps) = λ i. cond (nothing-among values.found none p.1.ops i) (p ∷ seen ps i) (seen ps i)

    unseen : (ps : Pending) → filter (λ p. not (list_any (is_among values.found) p.1.ops)) ps ≡ ps
    unseen [] = refl
    unseen (p ∷ ps) = λ i. cond (not (nothing-among values.found none p.1.ops i)) (p ∷ unseen ps i) (unseen ps i)

-- a transaction of which no value was read wrote no value that was read
unread-write : (s : Sessions) (w : List ℕ × ℕ) (ops : List Op) → list_any (is_seen_write s) ops ≡ false → list_any (puts w) ops ≡ true → is_read s w ≡ false
unread-write s w [] none e = cc e
unread-write s w (Get key value ∷ ops) none e = unread-write s w ops none e
unread-write s w (Put key value ∷ ops) none e =
    by (is_read s (key, value)) (puts w (Put key value)) refl refl none e (unread-write s w ops)
  where
    by : (r here : Bool) → is_read s (key, value) ≡ r → puts w (Put key value) ≡ here → (r || list_any (is_seen_write s) ops) ≡ false
        → (here || list_any (puts w) ops) ≡ true → (list_any (is_seen_write s) ops ≡ false → list_any (puts w) ops ≡ true → is_read s w ≡ false)
        → is_read s w ≡ false
    by true here is at none e more = cc none
    by false true is at none e more = ap (is_read s) (sym (put-is key value w at)) ∙ is
    by false false is at none e more = more none e

-- what the unseen ones wrote was written by one of all, and not read
unread-unseen : (s : Sessions) (pending : Pending) (w : List ℕ × ℕ) → is_written (unseen_among s pending) w ≡ true
    → (is_written pending w ≡ true) × (is_read s w ≡ false)
unread-unseen s [] w here = cc here
unread-unseen s (p ∷ ps) w here = by (is_seen s p.1) refl here (unread-unseen s ps w)
  where
    also : (a b : Bool) → b ≡ true → (a || b) ≡ true
    also true b e = refl
    also false b e = e

    one : (writes : Bool) → is_seen s p.1 ≡ false → list_any (puts w) p.1.ops ≡ writes → (writes || is_written (unseen_among s ps) w) ≡ true
        → (is_written (unseen_among s ps) w ≡ true → (is_written ps w ≡ true) × (is_read s w ≡ false)) → (is_written (p ∷ ps) w ≡ true) × (is_read s w ≡ false)
    one true is e here rest = (ap (λ b. b || is_written ps w) e, unread-write s w p.1.ops is e)
    one false is e here rest = (also (list_any (puts w) p.1.ops) (is_written ps w) (rest here).0, (rest here).1)

    by : (seen : Bool) → is_seen s p.1 ≡ seen → list_any (λ p. list_any (puts w) p.1.ops) (cond (not seen) (p ∷ unseen_among s ps) (unseen_among s ps)) ≡ true
        → (is_written (unseen_among s ps) w ≡ true → (is_written ps w ≡ true) × (is_read s w ≡ false)) → (is_written (p ∷ ps) w ≡ true) × (is_read s w ≡ false)
    by true is here rest = (also (list_any (puts w) p.1.ops) (is_written ps w) (rest here).0, (rest here).1)
    by false is here rest = one (list_any (puts w) p.1.ops) is refl here rest

-- the others are pending, and nothing of theirs is found
pub follows-unseen : (s : Sessions) (pending : Pending) (old new : PendingValues) → Follows s pending old → new.unread ≡ old.unread
    → ((w : List ℕ × ℕ) → holds new.found w ≡ false) → Follows s (unseen_among s pending) new
follows-unseen s pending old new follows same none = record {
  unread = λ w e. follows.unread w (ap (λ set. holds set w) (sym same) ∙ e);
  found = λ w e. absurd (cc (sym (none w) ∙ e));
  covered = λ w here.
      let (all, unread) = unread-unseen s pending w here in
      rw (none w) (by (holds old.unread w) (holds old.found w) (is_read s w) (holds new.unread w) (follows.found w) (follows.covered w all) unread
      (ap (λ set. holds set w) same));
}
  where
    by : (u f r n : Bool) → (f ≡ true → r ≡ true) → (u || f) ≡ true → r ≡ false → n ≡ u → (n || false) ≡ true
    by true f r n found covered unread same = ap (λ b. b || false) same
    by false true r n found covered unread same = cc (sym unread ∙ found refl)
    by false false r n found covered unread same = cc covered

keeps : {X : Type 0} (test : X → Bool) (x : X) (xs : List X) → test x ≡ true → filter test (x ∷ xs) ≡ x ∷ filter test xs
keeps test x xs t = rw t refl

drops : {X : Type 0} (test : X → Bool) (x : X) (xs : List X) → test x ≡ false → filter test (x ∷ xs) ≡ filter test xs
drops test x xs t = rw t refl

-- one more that passes a test, and one that doesn't
pub passes-on : {X : Type 0} (test : X → Bool) (xs rest done done' all : List X) (x : X) → xs ≡ x ∷ rest → done ++ filter test xs ≡ all → test x ≡ true
    → done' ≡ done ++ x ∷ [] → done' ++ filter test rest ≡ all
passes-on test xs rest done done' all x step before passes more =
    ap (λ ys. ys ++ filter test rest) more ∙ append_assoc done (x ∷ []) (filter test rest)
    ∙ ap (λ ys. done ++ ys) (sym (ap (filter test) step ∙ keeps test x rest passes)) ∙ before

pub refused-on : {X : Type 0} (test : X → Bool) (xs rest done all : List X) (x : X) → xs ≡ x ∷ rest → done ++ filter test xs ≡ all → test x ≡ false
    → done ++ filter test rest ≡ all
refused-on test xs rest done all x step before refused = ap (λ ys. done ++ ys) (sym (ap (filter test) step ∙ drops test x rest refused)) ∙ before
