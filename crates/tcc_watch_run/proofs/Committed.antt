-- How many committed transactions a snapshot has, and one with one transaction more.
use Rattle.std.proofs.Common.{◌≡◌, ℕ, suc, ◌+◌, Bool, true, false, cond, T, List, [], ◌∷◌, ◌++◌, length, sum_by}
use Rattle.std.proofs.Common.{refl, ap, sym, ◌<◌, ◌∙◌, arith, get_or, length-append, take, None, Option, Some}
use Rattle.std.specs.Prelude.{filter, slice_get, unwrap_or}
use Rattle.std.specs.Option.{option_map_or}
use Rattle.std.specs.FinMap as finite
use Rattle.std.specs.FinMap.Entries.{find, is_sorted, put}
use Rattle.std.specs.declared.cmp.Ordering.{Ordering}
use Rattle.std.specs.declared.cmp.Ordering.TheVariants.{Less, Equal, Greater}
use Rattle.std.proofs.lemmas.List.{length-map, nil_from_length, take_more}
use Rattle.std.proofs.lemmas.List.Elements.{filter-append}
use Rattle.std.proofs.lemmas.List.Sums.{sum_by-cons, sum_by_more}
use Rattle.std.proofs.lemmas.Option.{get_or_from_slice_get, slice_get-get_or, slice_get_within}
use Rattle.tcc_txn.specs.Finished.{with_transaction}
use Rattle.tcc_txn.specs.Snapshots.{Sessions, finished_at}
use Rattle.tcc_txn.specs.Transactions.{Transaction}
use Rattle.tcc_txn.proofs.Growing.{both-parts, find-absent}
use Rattle.tcc_txn.proofs.GrownSnapshot.{entries-with_transaction}
use Rattle.tcc_txn.proofs.SortedParts.{name_cmp}
use Rattle.tcc_reads.specs.History.{count}
use Rattle.tcc_reads.specs.Sites.{Stand, is_committed, stands, stands_from, stands_in, committed}
use Rattle.tcc_reads.specs.Sources.{entry_of, history}

-- how many of some transactions are committed
abbrev pub size : List Transaction → ℕ
size txns = length (filter (λ (txn : Transaction). txn.committed) txns)

abbrev pub part_size : List ℕ × List Transaction → ℕ
part_size part = size part.1

abbrev one : Transaction → ℕ
one txn = cond txn.committed 1 0

size-one : (txn : Transaction) → size (txn ∷ []) ≡ one txn
size-one txn = go txn.committed
  where
    go : (b : Bool) → length (cond b (txn ∷ []) []) ≡ cond b 1 0
    go true = refl
    go false = refl

size-push : (txns : List Transaction) (txn : Transaction) → size (txns ++ txn ∷ []) ≡ size txns + one txn
size-push txns txn =
    ap length (filter-append (λ (t : Transaction). t.committed) txns (txn ∷ []))
    ∙ (length-append (filter (λ (t : Transaction). t.committed) txns) (filter (λ (t : Transaction). t.committed) (txn ∷ []))
    ∙ ap (λ n. size txns + n) (size-one txn))

-- one more transaction among those of all sessions
size-put : (k : List ℕ) (txn : Transaction) (es : List (List ℕ × List Transaction)) → T (is_sorted name_cmp es)
    → sum_by part_size (put name_cmp k (unwrap_or (find name_cmp k es) [] ++ txn ∷ []) es) ≡ sum_by part_size es + one txn
size-put k txn [] sorted = sum_by-cons part_size (k, txn ∷ []) [] ∙ omega (arith, size-one txn)
size-put k txn (e ∷ es) sorted = by (name_cmp k e.0) refl (λ rest. size-put k txn es rest)
  where
    none : name_cmp k e.0 ≡ Less → find name_cmp k (e ∷ es) ≡ None
    none less = find-absent k [] (e ∷ es) sorted (rw less (omega arith))

    list : List Transaction
    list = unwrap_or (find name_cmp k es) [] ++ txn ∷ []

    put-later : (v : List Transaction) → name_cmp k e.0 ≡ Greater → put name_cmp k v (e ∷ es) ≡ e ∷ put name_cmp k v es
    put-later v greater = rw greater refl

    find-later : name_cmp k e.0 ≡ Greater → find name_cmp k (e ∷ es) ≡ find name_cmp k es
    find-later greater = rw greater refl

    later : name_cmp k e.0 ≡ Greater → put name_cmp k (unwrap_or (find name_cmp k (e ∷ es)) [] ++ txn ∷ []) (e ∷ es) ≡ e ∷ put name_cmp k list es
    later greater = put-later (unwrap_or (find name_cmp k (e ∷ es)) [] ++ txn ∷ []) greater
        ∙ ap (λ found. e ∷ put name_cmp k (unwrap_or found [] ++ txn ∷ []) es) (find-later greater)

    by : (r : Ordering) → name_cmp k e.0 ≡ r
        → (T (is_sorted name_cmp es) → sum_by part_size (put name_cmp k list es) ≡ sum_by part_size es + one txn)
        → sum_by part_size (put name_cmp k (unwrap_or (find name_cmp k (e ∷ es)) [] ++ txn ∷ []) (e ∷ es)) ≡ sum_by part_size (e ∷ es) + one txn
    by Less is more =
        rw (none is) (rw is (sum_by-cons part_size (k, txn ∷ []) (e ∷ es) ∙ omega (arith, size-one txn)))
    by Equal is more =
        rw is (sum_by-cons part_size (e.0, e.1 ++ txn ∷ []) es ∙ omega (arith, size-push e.1 txn, sum_by-cons part_size e es))
    by Greater is more =
        let after = more (both-parts _ _ sorted).1 in
        ap (sum_by part_size) (later is) ∙ (sum_by-cons part_size e (put name_cmp k list es) ∙ omega (arith, after, sum_by-cons part_size e es))

committed_in : (session : ℕ) (name : List ℕ) (place : ℕ) (txns : List Transaction) → length (filter is_committed (stands_in session name place txns)) ≡ size txns
committed_in session name place [] = refl
committed_in session name place (txn ∷ later) = go txn.committed (committed_in session name (place + 1) later)
  where
    others : List Stand
    others = filter is_committed (stands_in session name (place + 1) later)

    go : (b : Bool) → length others ≡ size later
        → length (cond b (record { session = session; name = name; place = place; txn = txn } ∷ others) others)
        ≡ length (cond b (txn ∷ filter (λ (t : Transaction). t.committed) later) (filter (λ (t : Transaction). t.committed) later))
    go true same = ap suc same
    go false same = same

committed_from : (session : ℕ) (named : List (List ℕ × List Transaction)) → length (filter is_committed (stands_from session named)) ≡ sum_by part_size named
committed_from session [] = refl
committed_from session (e ∷ later) =
    ap length (filter-append is_committed (stands_in session e.0 1 e.1) (stands_from (session + 1) later))
    ∙ (length-append (filter is_committed (stands_in session e.0 1 e.1)) (filter is_committed (stands_from (session + 1) later))
    ∙ ((λ i. committed_in session e.0 1 e.1 i + committed_from (session + 1) later i)
    ∙ sym (sum_by-cons part_size e later)))

pub counted : (s : Sessions) → count (history s) ≡ sum_by part_size (finite.entries s) + 1
counted s = omega (arith, length-map (committed (stands s)) (entry_of (stands s)), committed_from 0 (finite.entries s))

-- one more of some transactions, by its index
pub size-more : (txns : List Transaction) (i : ℕ) (txn : Transaction) → slice_get txns i ≡ Some txn → size (take (i + 1) txns) ≡ size (take i txns) + cond txn.committed 1 0
size-more txns i txn found =
    ap size
    (take_more txns i txn (slice_get_within txns i txn found)
    ∙ ap (λ (t : Transaction). take i txns ++ t ∷ []) (get_or_from_slice_get txns i txn txn found))
    ∙ size-push (take i txns) txn

-- one more session, by its index
pub sessions-more : (s : Sessions) (i : ℕ) → i < length (finite.entries s)
    → sum_by part_size (take (i + 1) (finite.entries s)) ≡ sum_by part_size (take i (finite.entries s)) + size (finished_at s i)
sessions-more s i within =
    sum_by_more part_size (finite.entries s) i ([], []) within
    ∙ ap (λ txns. sum_by part_size (take i (finite.entries s)) + size txns) (sym here)
  where
    here : finished_at s i ≡ (get_or (finite.entries s) i ([], [])).1
    here = ap (λ (o : Option (List ℕ × List Transaction)). option_map_or (λ named. named.1) o []) (slice_get-get_or (finite.entries s) i ([], []) within)

-- it has one more, or as many as before
pub count_more : (s : Sessions) (session : List ℕ) (txn : Transaction)
    → count (history (with_transaction s session txn)) ≡ count (history s) + cond txn.committed 1 0
count_more s session txn =
    let t = with_transaction s session txn in
    let grown : sum_by part_size (finite.entries t) ≡ sum_by part_size (finite.entries s) + one txn
    = ap (sum_by part_size) (entries-with_transaction s session txn) ∙ size-put session txn (finite.entries s) (finite.entries_sorted s) in
    omega (arith, counted t, counted s, grown)

pub count_none : count (history (finite.empty {R = name_cmp})) ≡ 1
count_none =
    counted (finite.empty {R = name_cmp})
    ∙ ap (λ (es : List (List ℕ × List Transaction)). sum_by part_size es + 1)
    (nil_from_length (finite.entries (finite.empty {R = name_cmp}))
    (sym (finite.len-entries (finite.empty {R = name_cmp})) ∙ finite.len-empty name_cmp (List Transaction)))
