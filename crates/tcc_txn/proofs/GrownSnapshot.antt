-- A snapshot after one more transaction.
use Rattle.std.proofs.Common.{◌≡◌, ℕ, ◌+◌, ◌≤◌, ◌<◌, false, cond, T, List, [], ◌∷◌, ◌++◌, length}
use Rattle.std.proofs.Common.{sum_by, refl, ap, sym, subst, ◌∙◌, arith, Option, None, Some}
use Rattle.std.specs.Prelude.{is_some, unwrap_or}
use Rattle.std.specs.FinMap as map
use Rattle.std.specs.FinMap.Entries.{find, is_sorted, is_sorted-put, put, length-put}
use Rattle.std.specs.Cmp.Lexicographic.{nat_list_cmp_total}
use Rattle.tcc_txn.specs.Finished.{IsWithinLimits, transaction_count, with_transaction}
use Rattle.tcc_txn.specs.Limits.{most_sessions, most_transactions}
use Rattle.tcc_txn.specs.Snapshots.{Sessions}
use Rattle.tcc_txn.specs.private.SnapshotStorage.{IsStoredWithin, shown}
use Rattle.tcc_txn.specs.Transactions.{Transaction}
use Rattle.tcc_txn.specs.declared.limits.Limits.{Limits}
use Rattle.tcc_txn.proofs.Growing.{count-put}
use Rattle.tcc_txn.proofs.SortedParts.{name_cmp}
use Rattle.tcc_txn.proofs.StoredSnapshot.{Named, entries-shown, len-shown}

-- the parts with one more transaction of the session
abbrev pub grown : List ℕ → Transaction → List (List ℕ × List Transaction) → List (List ℕ × List Transaction)
grown session txn es = put name_cmp session (unwrap_or (find name_cmp session es) [] ++ txn ∷ []) es

pub entries-with_transaction : (s : Sessions) (session : List ℕ) (txn : Transaction)
    → map.entries (with_transaction s session txn) ≡ grown session txn (map.entries s)
entries-with_transaction s session txn =
    map.entries-insert nat_list_cmp_total s session (unwrap_or (map.get s session) [] ++ txn ∷ [])
    ∙ ap (λ found. put name_cmp session (unwrap_or found [] ++ txn ∷ []) (map.entries s)) (map.get-entries s session)

pub count-with_transaction : (s : Sessions) (session : List ℕ) (txn : Transaction)
    → transaction_count (with_transaction s session txn) ≡ transaction_count s + 1
count-with_transaction s session txn =
    ap (sum_by (λ named. length named.1)) (entries-with_transaction s session txn)
    ∙ count-put session txn (map.entries s) (map.entries_sorted s)

pub len-with_transaction : (s : Sessions) (session : List ℕ) (txn : Transaction)
    → map.len (with_transaction s session txn) ≡ cond (map.contains_key s session) (map.len s) (map.len s + 1)
len-with_transaction s session txn = map.len-insert nat_list_cmp_total s session (unwrap_or (map.get s session) [] ++ txn ∷ [])

no_longer : {X : Type 0} (o : Option X) (n most : ℕ) → n ≤ most → (o ≡ None → n < most) → cond (is_some o) n (n + 1) ≤ most
no_longer None n most few room = (let less = room refl in omega arith)
no_longer (Some x) n most few room = few

module _ (limits : Limits) where
  count-shown : (parts : List Named) → IsStoredWithin limits parts → transaction_count (shown parts) ≡ sum_by (λ part. length part.1) parts
  count-shown parts stored = ap (sum_by (λ part. length part.1)) (entries-shown parts stored)

  module _ (old new : List Named) (session : List ℕ) (txn : Transaction) where
    pub stored-grown : IsStoredWithin limits old → new ≡ grown session txn old → (find name_cmp session old ≡ None → length old < most_sessions limits)
        → sum_by (λ part. length part.1) old < most_transactions limits → IsStoredWithin limits new
    stored-grown stored same room short =
        let longer : length new ≡ cond (is_some (find name_cmp session old)) (length old) (length old + 1)
        =
        ap length same ∙ length-put name_cmp nat_list_cmp_total session (unwrap_or (find name_cmp session old) [] ++ txn ∷ [])
        old stored.sorted in
        let fits = no_longer (find name_cmp session old) (length old) (most_sessions limits) stored.few room in
        record {
          sorted = subst (λ es. T (is_sorted name_cmp es)) (sym same)
              (is_sorted-put name_cmp nat_list_cmp_total session (unwrap_or (find name_cmp session old) [] ++ txn ∷ []) old stored.sorted);
          few = omega (arith, fits, longer);
          short = omega (arith, short, ap (sum_by (λ part. length part.1)) same, count-put session txn old stored.sorted);
        }

    pub count-grown : IsStoredWithin limits old → new ≡ grown session txn old → sum_by (λ part. length part.1) new ≡ sum_by (λ part. length part.1) old + 1
    count-grown stored same = ap (sum_by (λ part. length part.1)) same ∙ count-put session txn old stored.sorted

    pub shown-grown : IsStoredWithin limits old → IsStoredWithin limits new → new ≡ grown session txn old → shown new ≡ with_transaction (shown old) session txn
    shown-grown stored stored' same =
        map.same_entries_map (shown new) (with_transaction (shown old) session txn)
        (entries-shown new stored' ∙ same ∙ ap (grown session txn) (sym (entries-shown old stored)) ∙ sym (entries-with_transaction (shown old) session txn))

  -- a full snapshot cannot grow
  pub full : (parts : List Named) (session : List ℕ) (txn : Transaction) → IsStoredWithin limits parts
      → most_transactions limits ≤ sum_by (λ part. length part.1) parts → IsWithinLimits limits (with_transaction (shown parts) session txn) → ⊥
  full parts session txn stored most kept =
      absurd (omega (arith, kept.1, count-with_transaction (shown parts) session txn, count-shown parts stored))

  pub crowded : (parts : List Named) (session : List ℕ) (txn : Transaction) → IsStoredWithin limits parts → most_sessions limits ≤ length parts
      → find name_cmp session parts ≡ None → IsWithinLimits limits (with_transaction (shown parts) session txn) → ⊥
  crowded parts session txn stored most none kept =
      let new : map.contains_key (shown parts) session ≡ false =
      ap is_some (map.get-entries (shown parts) session ∙ ap (find name_cmp session) (entries-shown parts stored) ∙ none) in
      let longer : map.len (with_transaction (shown parts) session txn) ≡ map.len (shown parts) + 1
      = len-with_transaction (shown parts) session txn ∙ ap (λ b. cond b (map.len (shown parts)) (map.len (shown parts) + 1)) new in
      absurd (omega (arith, kept.0, longer, len-shown parts stored))

  pub stored-none : (parts : List Named) → parts ≡ [] → IsStoredWithin limits parts
  stored-none parts none = rw none (record { sorted = tt; few = omega arith; short = omega arith })

  pub shown-none : (parts : List Named) → parts ≡ [] → shown parts ≡ map.empty
  shown-none parts none = map.empty_of_len (shown parts) (len-shown parts (stored-none parts none) ∙ ap length none)
