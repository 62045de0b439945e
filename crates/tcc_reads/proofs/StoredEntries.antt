-- The transactions of some sessions, with some of their reads and the sources of these, are such as a history keeps.
use Rattle.std.proofs.Common.{◌≡◌, ℕ, suc, ◌+◌, ◌<◌, ◌≤◌, Bool, true, false, cond, List, [], ◌∷◌, length, map, filter, sum_by, All, Some, unwrap_or, ap, sym}
use Rattle.std.proofs.Common.{◌∙◌, subst, arith, get_or}
use Rattle.std.specs.Prelude.{◌==◌}
use Rattle.std.specs.List.{position_from}
use Rattle.std.specs.BTreeSet.{insert_key}
use Rattle.std.specs.declared.cmp.Ordering.{Ordering}
use Rattle.std.specs.declared.cmp.Ordering.TheVariants.{Less, Equal, Greater}
use Rattle.std.specs.Cmp.{IsTotalOrder}
use Rattle.std.specs.List.Sorted.{IsStrictlySortedBy}
use Rattle.std.specs.Ordering.{match_ordering}
use Rattle.std.proofs.lemmas.Cmp.{nat_cmp_total, nat_list_cmp_total, then_total, on_total}
use Rattle.std.proofs.lemmas.List.{length-map}
use Rattle.std.proofs.lemmas.List.Elements.{All-nil, All-cons, All-head, All-tail, All-map, All-filter}
use Rattle.tcc_txn.specs.Transactions.{Transaction}
use Rattle.tcc_txn.specs.declared.limits.TheConstants.{LARGE_SESSIONS, LARGE_TRANSACTIONS}
use Rattle.tcc_reads.specs.History.{Entry, IsBySession, initial, places_of}
use Rattle.tcc_reads.specs.Sites.{Stand, is_committed, stands_from, committed}
use Rattle.tcc_reads.specs.Sources.{shows, source, sorted_once, pair_cmp, writes_of}
use Rattle.tcc_reads.specs.private.Stored.{IsStored}
use Rattle.tcc_reads.proofs.Counting.{length-stands_from, stands_from-session}
use Rattle.tcc_reads.proofs.Sourcing.{with_source}
use Rattle.tcc_reads.proofs.Rising.{by_sessions}
use Rattle.tcc_reads.proofs.SortedOnce.{once_sorted}

All-insert_key : {K : Type 0} (P : K → Type 0) (cmp : K → K → Ordering) (k : K) (ks : List K) → P k → All P ks → All P (insert_key cmp ks k)
All-insert_key P cmp k [] here rest = All-cons P k [] here rest
All-insert_key P cmp k (x ∷ xs) here rest =
    elim (cmp k x) as (λ r. All P (match_ordering r (k ∷ x ∷ xs) (x ∷ xs) (x ∷ insert_key cmp xs k))) [
      | Less ↦ All-cons P k (x ∷ xs) here rest
      | Equal ↦ rest
      | Greater ↦ All-cons P x (insert_key cmp xs k) (All-head P x xs rest) (All-insert_key P cmp k xs here (All-tail P x xs rest))
    ]

pub All-sorted_once : {K : Type 0} (P : K → Type 0) (cmp : K → K → Ordering) (ks : List K) → All P ks → All P (sorted_once cmp ks)
All-sorted_once P cmp [] each = each
All-sorted_once P cmp (k ∷ ks) each =
    All-insert_key P cmp k (sorted_once cmp ks) (All-head P k ks each) (All-sorted_once P cmp ks (All-tail P k ks each))

unwrap_or-position_from : {A : Type 0} (p : A → Bool) (first : ℕ) (xs : List A) → 0 < first → unwrap_or (position_from p first xs) 0 < first + length xs
unwrap_or-position_from p first [] some = omega arith
unwrap_or-position_from p first (x ∷ xs) some =
    let later : unwrap_or (position_from p (first + 1) xs) 0 < first + suc (length xs)
    = omega (arith, unwrap_or-position_from p (first + 1) xs (omega arith)) in
    elim (p x) as (λ b. unwrap_or (cond b (Some first) (position_from p (first + 1) xs)) 0 < first + suc (length xs)) [
      | true ↦ omega arith
      | false ↦ later
    ]

pair_total : IsTotalOrder pair_cmp
pair_total = then_total (on_total (λ (r : List ℕ × ℕ). r.0) nat_list_cmp_total) (on_total (λ (r : List ℕ × ℕ). r.1) nat_cmp_total)

source-below : (all : List Stand) (x : List ℕ) (v : ℕ) → source all x v < 1 + length (committed all)
source-below all x v =
    elim (v == 0) as (λ b. cond b 0 (unwrap_or (position_from (shows x v) 1 (committed all)) 0) < 1 + length (committed all)) [
      | true ↦ omega arith
      | false ↦ unwrap_or-position_from (shows x v) 1 (committed all) (omega arith)
    ]

length-filter : {A : Type 0} (p : A → Bool) (xs : List A) → length (filter p xs) ≤ length xs
length-filter p [] = omega arith
length-filter p (x ∷ xs) =
    let later : length (filter p xs) ≤ length xs = length-filter p xs in
    elim (p x) as (λ b. length (cond b (x ∷ filter p xs) (filter p xs)) ≤ suc (length xs)) [ true ↦ omega arith | false ↦ omega arith ]

-- transactions of these sessions, with these external reads, by key and value
module _ (named : List (List ℕ × List Transaction)) (reads : Stand → List (List ℕ × ℕ)) where
  abbrev all : List Stand
  all = stands_from 0 named

  abbrev pub entry : Stand → Entry
  entry stand = record {
    owner = stand.session;
    place = stand.place;
    writes = writes_of stand;
    reads = sorted_once pair_cmp (map (with_source all) (reads stand));
  }

  entries_stored : (count : ℕ) → count ≡ length (committed all) + 1
      → All (λ e. All (λ r. r.1 < count) e.reads) (initial ∷ map entry (committed all))
  entries_stored count is =
      let IsIn : Entry → Type 0 = λ e. All (λ r. r.1 < count) e.reads in
      let IsBelow : List ℕ × ℕ → Type 0 = λ r. r.1 < count in
      All-cons IsIn initial (map entry (committed all)) (All-nil IsBelow)
      (All-map IsIn entry (committed all) (λ k d within.
      All-sorted_once IsBelow pair_cmp (map (with_source all) (reads (get_or (committed all) k d)))
      (All-map IsBelow (with_source all) (reads (get_or (committed all) k d)) (λ j e inside.
      omega (
        arith,
        is,
        source-below all (get_or (reads (get_or (committed all) k d)) j e).0
            (get_or (reads (get_or (committed all) k d)) j e).1,
      )))))

  entries_ordered : All (λ e. IsStrictlySortedBy pair_cmp e.reads) (initial ∷ map entry (committed all))
  entries_ordered =
      let IsOrdered : Entry → Type 0 = λ e. IsStrictlySortedBy pair_cmp e.reads in
      All-cons IsOrdered initial (map entry (committed all)) (once_sorted pair_total [])
      (All-map IsOrdered entry (committed all) (λ k d within.
      once_sorted pair_total (map (with_source all) (reads (get_or (committed all) k d)))))

  owners_stored : (bound : ℕ) → length named ≤ bound → All (λ p. p.0 < bound) (places_of (initial ∷ map entry (committed all)))
  owners_stored bound within =
      let IsBelow : ℕ × ℕ → Type 0 = λ p. p.0 < bound in
      All-map IsBelow (λ (e : Entry). (e.owner, e.place)) (map entry (committed all))
      (All-map (λ (e : Entry). e.owner < bound) entry (committed all)
      (All-filter is_committed (λ (stand : Stand). stand.session < bound) all (stands_from-session 0 named bound (omega arith))))

  module _ (nodes : List Entry) (are_nodes : nodes ≡ initial ∷ map entry (committed all)) where
    counted : length nodes ≡ length (committed all) + 1
    counted = ap length are_nodes ∙ omega (arith, length-map (committed all) entry)

    -- there are at most as many transactions as the sessions have, and one more
    pub few_nodes : length nodes ≤ sum_by (λ part. length part.1) named + 1
    few_nodes = omega (arith, counted, length-filter is_committed all, length-stands_from 0 named)

  pub stored : (names : List (List ℕ)) (places : List (ℕ × ℕ)) (nodes : List Entry) → names ≡ map (λ part. part.0) named
      → nodes ≡ initial ∷ map entry (committed all) → places ≡ places_of nodes → length named ≤ LARGE_SESSIONS
      → sum_by (λ part. length part.1) named ≤ LARGE_TRANSACTIONS → IsStored names places nodes
  stored names places nodes names_are nodes_are are few_sessions few_transactions =
      let AreIn : List Entry → Type 0 = λ es. All (λ e. All (λ r. r.1 < length nodes) e.reads) es in
      let AreOwners : List (ℕ × ℕ) → Type 0 = λ ps. All (λ p. p.0 < length names) ps in
      let so_many : length names ≡ length named = ap length names_are ∙ length-map named (λ part. part.0) in
      record {
        places_again = are;
        few_sessions = omega (arith, so_many, few_sessions);
        some = omega (arith, counted nodes nodes_are);
        first = ap (λ (es : List Entry). get_or es 0 initial) nodes_are;
        few = omega (arith, few_nodes nodes nodes_are, few_transactions);
        owners = subst AreOwners (sym (are ∙ ap places_of nodes_are)) (owners_stored (length names) (omega (arith, so_many)));
        sources = subst AreIn (sym nodes_are) (entries_stored (length nodes) (counted nodes nodes_are));
        reads_ordered = subst (All (λ e. IsStrictlySortedBy pair_cmp e.reads)) (sym nodes_are) entries_ordered;
        ordered = subst IsBySession (sym nodes_are) (by_sessions named (λ stand. sorted_once pair_cmp (map (with_source all) (reads stand))));
      }
