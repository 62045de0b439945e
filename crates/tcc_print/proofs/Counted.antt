-- A snapshot has more transactions after each that is finished.
use Rattle.std.proofs.Common.{◌≡◌, ℕ, ◌+◌, ◌≤◌, List, [], ◌∷◌, ◌++◌, length, sum_by, refl, ap, sym, subst, ◌∙◌, arith, length-append}
use Rattle.std.specs.Prelude.{unwrap_or}
use Rattle.std.specs.FinMap as finite
use Rattle.std.specs.FinMap.Entries.{find, put}
use Rattle.std.specs.Cmp.Lexicographic.{nat_list_cmp_total}
use Rattle.std.specs.declared.cmp.Ordering.{Ordering}
use Rattle.std.specs.declared.cmp.Ordering.TheVariants.{Less, Equal, Greater}
use Rattle.std.proofs.lemmas.List.Sums.{sum_by-cons}
use Rattle.tcc_txn.specs.Finished.{transaction_count, with_transaction}
use Rattle.tcc_txn.specs.Snapshots.{Sessions}
use Rattle.tcc_txn.specs.Transactions.{Transaction}
use Rattle.tcc_txn.proofs.SortedParts.{name_cmp}

abbrev size : List ℕ × List Transaction → ℕ
size named = length named.1

-- one more transaction of a session, among those of all
grows-put : (k : List ℕ) (txn : Transaction) (es : List (List ℕ × List Transaction))
    → sum_by size es + 1 ≤ sum_by size (put name_cmp k (unwrap_or (find name_cmp k es) [] ++ txn ∷ []) es)
grows-put k txn [] = omega arith
grows-put k txn (e ∷ es) = by (name_cmp k e.0) refl (grows-put k txn es)
  where
    rest : List Transaction
    rest = unwrap_or (find name_cmp k es) []

    put-later : (v : List Transaction) → name_cmp k e.0 ≡ Greater → put name_cmp k v (e ∷ es) ≡ e ∷ put name_cmp k v es
    put-later v greater = rw greater refl

    find-later : name_cmp k e.0 ≡ Greater → find name_cmp k (e ∷ es) ≡ find name_cmp k es
    find-later greater = rw greater refl

    later : name_cmp k e.0 ≡ Greater → put name_cmp k (unwrap_or (find name_cmp k (e ∷ es)) [] ++ txn ∷ []) (e ∷ es) ≡ e ∷ put name_cmp k (rest ++ txn ∷ []) es
    later greater = put-later (unwrap_or (find name_cmp k (e ∷ es)) [] ++ txn ∷ []) greater
        ∙ ap (λ found. e ∷ put name_cmp k (unwrap_or found [] ++ txn ∷ []) es) (find-later greater)

    by : (r : Ordering) → name_cmp k e.0 ≡ r → sum_by size es + 1 ≤ sum_by size (put name_cmp k (rest ++ txn ∷ []) es)
        → sum_by size (e ∷ es) + 1 ≤ sum_by size (put name_cmp k (unwrap_or (find name_cmp k (e ∷ es)) [] ++ txn ∷ []) (e ∷ es))
    by Less is more = rw is (omega (arith, sum_by-cons size (k, rest ++ txn ∷ []) (e ∷ es), length-append rest (txn ∷ [])))
    by Equal is more =
        rw is (omega (arith, sum_by-cons size (e.0, e.1 ++ txn ∷ []) es, sum_by-cons size e es, length-append e.1 (txn ∷ [])))
    by Greater is more =
        let after = sum_by-cons size e (put name_cmp k (rest ++ txn ∷ []) es) in
        subst (λ grown. sum_by size (e ∷ es) + 1 ≤ sum_by size grown) (sym (later is)) (omega (arith, more, after, sum_by-cons size e es))

-- a snapshot has more transactions after one more
pub grows : (s : Sessions) (session : List ℕ) (txn : Transaction)
    → transaction_count s + 1 ≤ transaction_count (with_transaction s session txn)
grows s session txn =
    subst (λ es. transaction_count s + 1 ≤ sum_by size es)
    (sym (finite.entries-insert nat_list_cmp_total s session (unwrap_or (finite.get s session) [] ++ txn ∷ [])))
    (subst (λ found. transaction_count s + 1 ≤ sum_by size (put name_cmp session (unwrap_or found [] ++ txn ∷ []) (finite.entries s)))
    (sym (finite.get-entries s session)) (grows-put session txn (finite.entries s)))
