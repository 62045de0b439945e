-- What settled answers finish keeps the limits, since all items keep them even with all of unknown outcome.
use Rattle.std.proofs.Common.{◌≡◌, ℕ, ◌+◌, ◌≤◌, Bool, true, false, cond, not, ◌||◌, List, [], ◌∷◌, ◌++◌, filter, length, map, refl, sym, ap, subst, ◌∙◌, arith}
use Rattle.std.proofs.Common.{length-append}
use Rattle.std.specs.Prelude.{fold, is_none, unwrap_or}
use Rattle.std.specs.FinMap as finite
use Rattle.std.specs.List.{list_any}
use Rattle.std.specs.Cmp.{eq_by_cmp_equiv}
use Rattle.std.specs.Cmp.Lexicographic.{nat_list_cmp_total}
use Rattle.std.proofs.lemmas.List.{length-map}
use Rattle.std.proofs.lemmas.List.Filters.{length-filter_both}
use Rattle.std.proofs.lemmas.List.Folds.{list_any-append}
use Rattle.std.proofs.lemmas.Map.Made.{length-le_from_is_member}
use Rattle.tcc_txn.specs.Bytes.{same}
use Rattle.tcc_txn.specs.Finished.{IsWithinLimits, transaction_count, with_transaction}
use Rattle.tcc_txn.specs.Snapshots.{Sessions}
use Rattle.tcc_txn.specs.Transactions.{Transaction}
use Rattle.tcc_txn.specs.declared.limits.Limits.{Limits}
use Rattle.tcc_txn.proofs.GrownSnapshot.{count-with_transaction}
use Rattle.tcc_rows.specs.Answers.{answers_within, given_within}
use Rattle.tcc_rows.specs.Items.{finished_in, with_item}
use Rattle.tcc_rows.specs.Settling.{Pending, is_seen, seen_among, settled_after, shown, told, unseen_among, with_shown}
use Rattle.tcc_rows.specs.declared.rows.Item.{Item}
use Rattle.tcc_rows.specs.declared.rows.Item.TheVariants as item
use Rattle.tcc_rows.proofs.FinishedFacts.{all-limits, distinct-keys, fold-append, has, has-insert, with_any}

-- ---- more of some sessions

abbrev named : List ℕ → List ℕ × Transaction → Bool
named q one = same one.0 q

-- a name has one more transaction, or it had some
has-with : (s : Sessions) (session q : List ℕ) (txn : Transaction) → has (with_transaction s session txn) q ≡ cond (same session q) true (has s q)
has-with s session q txn = has-insert s session q (unwrap_or (finite.get s session) [] ++ txn ∷ [])

shuffle : (a b c : Bool) → (b || cond a true c) ≡ ((a || b) || c)
shuffle true true c = refl
shuffle true false c = refl
shuffle false true c = refl
shuffle false false c = refl

has-told : (q : List ℕ) (xs : Pending) (s : Sessions) → has (fold with_item s (map told xs)) q ≡ (list_any (named q) xs || has s q)
has-told q [] s = refl
has-told q (x ∷ xs) s =
    has-told q xs (with_transaction s x.0 x.1) ∙ ap (λ b. list_any (named q) xs || b) (has-with s x.0 q x.1) ∙ shuffle (same x.0 q) (list_any (named q) xs) (has s q)

count-told : (xs : Pending) (s : Sessions) → transaction_count (fold with_item s (map told xs)) ≡ transaction_count s + length xs
count-told [] s = omega arith
count-told (x ∷ xs) s = omega (arith, count-told xs (with_transaction s x.0 x.1), count-with_transaction s x.0 x.1)

any-filter : {X : Type 0} (p test : X → Bool) (xs : List X) → list_any p (filter test xs) ≡ true → list_any p xs ≡ true
any-filter p test [] e = cc e
any-filter p test (x ∷ xs) e = by (test x) (p x) refl e (any-filter p test xs)
  where
    by : (a b : Bool) → p x ≡ b → list_any p (cond a (x ∷ filter test xs) (filter test xs)) ≡ true → (list_any p (filter test xs) ≡ true → list_any p xs ≡ true)
        → (b || list_any p xs) ≡ true
    by a true is e more = refl
    by true false is e more = more (ap (λ b. b || list_any p (filter test xs)) (sym is) ∙ e)
    by false false is e more = more e

-- no more names, no more sessions
few-names : (m a : Sessions) → ((q : List ℕ) → has m q ≡ true → has a q ≡ true) → finite.len m ≤ finite.len a
few-names m a part =
    let fewer : length (finite.keys m) ≤ length (finite.keys a)
    = length-le_from_is_member (eq_by_cmp_equiv nat_list_cmp_total) (finite.keys m) (finite.keys a) (distinct-keys (finite.entries m) (finite.entries_sorted m))
    (λ q h. sym (finite.contains_key-keys a q) ∙ part q (finite.contains_key-keys m q ∙ h)) in
    omega (arith, fewer, finite.len-entries m, length-map (finite.entries m) (λ e. e.0), finite.len-entries a, length-map (finite.entries a) (λ e. e.0))

-- ---- what is finished and what is pending, bounded by all

record IsBelow (s : Sessions) (pending : Pending) (all : Sessions) : Type 0 where
  count : transaction_count s + length pending ≤ transaction_count all
  names : (q : List ℕ) → (list_any (named q) pending || has s q) ≡ true → has all q ≡ true

below-told : (s all : Sessions) (pending : Pending) (session : List ℕ) (txn : Transaction) → IsBelow s pending all
    → IsBelow (with_transaction s session txn) pending (with_transaction all session txn)
below-told s all pending session txn below = record {
  count = omega (arith, below.count, count-with_transaction s session txn, count-with_transaction all session txn);
  names = λ q e.
      has-with all session q txn
      ∙ by (same session q) (list_any (named q) pending) (has s q) (has all q) (ap (λ b. list_any (named q) pending || b) (sym (has-with s session q txn)) ∙ e)
      (below.names q);
}
  where
    by : (a b c d : Bool) → (b || cond a true c) ≡ true → ((b || c) ≡ true → d ≡ true) → cond a true d ≡ true
    by true b c d e more = refl
    by false b c d e more = more e

below-waiting : (s all : Sessions) (pending : Pending) (session : List ℕ) (txn : Transaction) → IsBelow s pending all
    → IsBelow s (pending ++ (session, txn) ∷ []) (with_transaction all session txn)
below-waiting s all pending session txn below = record {
  count = omega (arith, below.count, length-append pending ((session, txn) ∷ []), count-with_transaction all session txn);
  names = λ q e.
      has-with all session q txn
      ∙ by (same session q) (list_any (named q) pending) (has s q) (has all q)
      (ap (λ b. b || has s q) (sym (list_any-append (named q) pending ((session, txn) ∷ []))) ∙ e) (below.names q);
}
  where
    by : (a b c d : Bool) → ((b || (a || false)) || c) ≡ true → ((b || c) ≡ true → d ≡ true) → cond a true d ≡ true
    by true b c d e more = refl
    by false true c d e more = more refl
    by false false c d e more = more e

names-shown : (s : Sessions) (pending : Pending) (q : List ℕ) → has (with_shown s pending) q ≡ true → (list_any (named q) pending || has s q) ≡ true
names-shown s pending q e =
    by (list_any (named q) (seen_among s pending)) (list_any (named q) pending) (has s q) (sym (has-told q (seen_among s pending) s) ∙ e)
    (any-filter (named q) (λ p. is_seen s p.1) pending)
  where
    by : (a b c : Bool) → (a || c) ≡ true → (a ≡ true → b ≡ true) → (b || c) ≡ true
    by true b c e more = ap (λ b. b || c) (more refl)
    by false true c e more = refl
    by false false c e more = e

below-shown : (s all : Sessions) (pending : Pending) → IsBelow s pending all → IsBelow (with_shown s pending) (unseen_among s pending) all
below-shown s all pending below = record {
  count = omega (
    arith,
    below.count,
    count-told (seen_among s pending) s,
    length-filter_both (λ (p : List ℕ × Transaction). is_seen s p.1) (λ p. not (is_seen s p.1)) (λ p. refl) pending,
  );
  names = λ q e.
      below.names q (by (list_any (named q) (unseen_among s pending)) (list_any (named q) pending) (has (with_shown s pending) q) (has s q) e
      (any-filter (named q) (λ p. not (is_seen s p.1)) pending) (names-shown s pending q));
}
  where
    by : (a b c d : Bool) → (a || c) ≡ true → (a ≡ true → b ≡ true) → (c ≡ true → (b || d) ≡ true) → (b || d) ≡ true
    by true b c d e more other = ap (λ b. b || d) (more refl)
    by false b c d e more other = other e

module _ (limits : Limits) where
  within-below : (s all : Sessions) (pending : Pending) → IsBelow s pending all → IsWithinLimits limits all → IsWithinLimits limits s
  within-below s all pending below kept = (
    omega (arith, kept.0, few-names s all (λ q e. below.names q (or-after (list_any (named q) pending) (has s q) e))),
    omega (arith, kept.1, below.count),
  )
    where
      or-after : (a b : Bool) → b ≡ true → (a || b) ≡ true
      or-after true b e = refl
      or-after false b e = e

  settled-within : (ends : Bool) (items : List Item) (s all : Sessions) (pending : Pending) → IsBelow s pending all
      → IsWithinLimits limits (fold with_any all items) → IsWithinLimits limits (fold with_item s (settled_after ends s pending items))
  settled-within true [] s all pending below kept =
      within-below (with_shown s pending) all (unseen_among s pending) (below-shown s all pending below) kept
  settled-within false [] s all pending below kept = within-below s all pending below kept
  settled-within ends (item.Finished session txn ∷ rest) s all pending below kept =
      settled-within ends rest (with_transaction s session txn) (with_transaction all session txn) pending (below-told s all pending session txn below) kept
  settled-within ends (item.Unknown session txn ∷ rest) s all pending below kept =
      settled-within ends rest s (with_transaction all session txn) (pending ++ (session, txn) ∷ []) (below-waiting s all pending session txn below) kept
  settled-within ends (item.Seal ∷ rest) s all pending below kept =
      subst (IsWithinLimits limits)
      (sym (fold-append with_item s (shown s pending) (item.Seal ∷ settled_after ends (with_shown s pending) (unseen_among s pending) rest)))
      (settled-within ends rest (with_shown s pending) all (unseen_among s pending) (below-shown s all pending below) kept)
  settled-within ends (item.End ∷ rest) s all pending below kept = settled-within ends rest s all pending below kept

  nothing-below : IsBelow finite.empty [] finite.empty
  nothing-below = record { count = omega arith; names = λ q e. e }

  -- what a text's records finish keeps the limits of a snapshot
  pub text-limits : (text : List ℕ) → IsWithinLimits limits (finished_in (answers_within limits text).items)
  text-limits text =
      settled-within (is_none (given_within limits text).fault) (given_within limits text).items finite.empty finite.empty [] nothing-below (all-limits limits text)
