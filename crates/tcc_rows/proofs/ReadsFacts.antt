-- Which values were read, after one more transaction.
use Rattle.std.proofs.Common.{◌≡◌, ℕ, Bool, true, false, ◌||◌, T, List, [], ◌∷◌, ◌++◌, length, refl, ap, sym, ◌∙◌, arith, None}
use Rattle.std.specs.Prelude.{fold, map, unwrap_or}
use Rattle.std.specs.FinMap as finite
use Rattle.std.specs.FinMap.Entries.{find, is_sorted, put}
use Rattle.std.specs.List.{list_any}
use Rattle.std.specs.declared.cmp.Ordering.{Ordering}
use Rattle.std.specs.declared.cmp.Ordering.TheVariants.{Less, Equal, Greater}
use Rattle.std.proofs.lemmas.List.Folds.{list_any-append}
use Rattle.tcc_txn.specs.Finished.{with_transaction}
use Rattle.tcc_txn.specs.Snapshots.{Sessions}
use Rattle.tcc_txn.specs.Transactions.{Transaction}
use Rattle.tcc_txn.specs.declared.op.Op.{Op}
use Rattle.tcc_txn.specs.declared.op.Op.TheVariants.{Get, Put}
use Rattle.tcc_txn.proofs.Growing.{both-parts, find-absent}
use Rattle.tcc_txn.proofs.GrownSnapshot.{entries-with_transaction}
use Rattle.tcc_txn.proofs.SortedParts.{name_cmp}
use Rattle.tcc_rows.specs.Items.{with_item}
use Rattle.tcc_rows.specs.Settling.{Pending, is_read, is_read_by, is_read_in, is_seen, is_seen_write, told}

shift : (a b c : Bool) → (a || (b || c)) ≡ ((a || b) || c)
shift true b c = refl
shift false b c = refl

swap-end : (a b c : Bool) → ((a || (b || false)) || c) ≡ ((a || c) || b)
swap-end true b c = refl
swap-end false true true = refl
swap-end false true false = refl
swap-end false false true = refl
swap-end false false false = refl

first-last : (a b : Bool) → ((a || false) || b) ≡ (b || a)
first-last true true = refl
first-last true false = refl
first-last false true = refl
first-last false false = refl

module _ (test : Transaction → Bool) where
  abbrev any_in : List ℕ × List Transaction → Bool
  any_in named = list_any test named.1

  -- one more transaction among those of all sessions
  any-put : (k : List ℕ) (txn : Transaction) (es : List (List ℕ × List Transaction)) → T (is_sorted name_cmp es)
      → list_any any_in (put name_cmp k (unwrap_or (find name_cmp k es) [] ++ txn ∷ []) es) ≡ (list_any any_in es || test txn)
  any-put k txn [] sorted = by (test txn)
    where
      by : (b : Bool) → ((b || false) || false) ≡ b
      by true = refl
      by false = refl
  any-put k txn (e ∷ es) sorted = by (name_cmp k e.0) refl (λ rest. any-put k txn es rest)
    where
      none : name_cmp k e.0 ≡ Less → find name_cmp k (e ∷ es) ≡ None
      none less = find-absent k [] (e ∷ es) sorted (rw less (omega arith))

      list : List Transaction
      list = unwrap_or (find name_cmp k es) [] ++ txn ∷ []

      put-later : (v : List Transaction) → name_cmp k e.0 ≡ Greater → put name_cmp k v (e ∷ es) ≡ e ∷ put name_cmp k v es
      put-later v greater = rw greater refl

      find-later : name_cmp k e.0 ≡ Greater → find name_cmp k (e ∷ es) ≡ find name_cmp k es
      find-later greater = rw greater refl

      later : name_cmp k e.0 ≡ Greater → put name_cmp k (unwrap_or (find name_cmp k (e ∷ es)) [] ++ txn ∷ []) (e ∷ es) ≡ e ∷ put name_cmp k list es
      later greater = put-later (unwrap_or (find name_cmp k (e ∷ es)) [] ++ txn ∷ []) greater
          ∙ ap (λ found. e ∷ put name_cmp k (unwrap_or found [] ++ txn ∷ []) es) (find-later greater)

      by : (r : Ordering) → name_cmp k e.0 ≡ r
          → (T (is_sorted name_cmp es) → list_any any_in (put name_cmp k list es) ≡ (list_any any_in es || test txn))
          → list_any any_in (put name_cmp k (unwrap_or (find name_cmp k (e ∷ es)) [] ++ txn ∷ []) (e ∷ es)) ≡ (list_any any_in (e ∷ es) || test txn)
      by Less is more = rw (none is) (rw is (first-last (test txn) (list_any any_in (e ∷ es))))
      by Equal is more =
          rw is (ap (λ b. b || list_any any_in es) (list_any-append test e.1 (txn ∷ [])) ∙ swap-end (list_any test e.1) (test txn) (list_any any_in es))
      by Greater is more =
          ap (list_any any_in) (later is) ∙ ap (λ b. any_in e || b) (more (both-parts _ _ sorted).1) ∙ shift (any_in e) (list_any any_in es) (test txn)

pub read-with : (written : List ℕ × ℕ) (s : Sessions) (session : List ℕ) (txn : Transaction)
    → is_read (with_transaction s session txn) written ≡ (is_read s written || is_read_by written txn)
read-with written s session txn =
    ap (list_any (is_read_in written)) (entries-with_transaction s session txn)
    ∙ any-put (is_read_by written) session txn (finite.entries s) (finite.entries_sorted s)

no-entries : {X : Type 0} (es : List X) → length es ≡ 0 → es ≡ []
no-entries [] e = refl
no-entries (x ∷ es) e = absurd (omega arith)

-- nothing was read before anything is finished
pub read-empty : (written : List ℕ × ℕ) → is_read finite.empty written ≡ false
read-empty written =
    ap (list_any (is_read_in written))
    (no-entries (finite.entries finite.empty) (sym (finite.len-entries finite.empty) ∙ finite.len-empty name_cmp (List Transaction)))

abbrev pub reads_by : List ℕ × ℕ → List ℕ × Transaction → Bool
reads_by written p = is_read_by written p.1

-- none of some transactions reads anything
abbrev pub IsSilent : Pending → Type 0
IsSilent pending = (written : List ℕ × ℕ) → list_any (reads_by written) pending ≡ false

neither : (a b : Bool) → (a || b) ≡ false → (a ≡ false) × (b ≡ false)
neither true b e = cc e
neither false b e = (refl, e)

or-none : (a b : Bool) → b ≡ false → (a || b) ≡ a
or-none true b e = refl
or-none false b e = e

pub read-told : (written : List ℕ × ℕ) (xs : Pending) (s : Sessions) → IsSilent xs → is_read (fold with_item s (map told xs)) written ≡ is_read s written
read-told written [] s silent = refl
read-told written (x ∷ xs) s silent =
    read-told written xs (with_transaction s x.0 x.1) (λ w. (neither (is_read_by w x.1) _ (silent w)).1)
    ∙ read-with written s x.0 x.1 ∙ or-none (is_read s written) (is_read_by written x.1) (neither (is_read_by written x.1) _ (silent written)).0

-- ---- what is seen

seen-ops : (s t : Sessions) → ((written : List ℕ × ℕ) → is_read s written ≡ is_read t written) → (ops : List Op)
    → list_any (is_seen_write s) ops ≡ list_any (is_seen_write t) ops
seen-ops s t same [] = refl
seen-ops s t same (Get key value ∷ ops) = seen-ops s t same ops
seen-ops s t same (Put key value ∷ ops) = λ i. same (key, value) i || seen-ops s t same ops i

pub seen-same : (s t : Sessions) → ((written : List ℕ × ℕ) → is_read s written ≡ is_read t written) → (txn : Transaction) → is_seen s txn ≡ is_seen t txn
seen-same s t same txn = seen-ops s t same txn.ops

left-or : (a b : Bool) → a ≡ true → (a || b) ≡ true
left-or true b e = refl
left-or false b e = cc e

seen-more-ops : (s : Sessions) (session : List ℕ) (txn : Transaction) (ops : List Op) → list_any (is_seen_write s) ops ≡ true
    → list_any (is_seen_write (with_transaction s session txn)) ops ≡ true
seen-more-ops s session txn [] e = cc e
seen-more-ops s session txn (Get key value ∷ ops) e = seen-more-ops s session txn ops e
seen-more-ops s session txn (Put key value ∷ ops) e =
    by (is_read s (key, value)) (list_any (is_seen_write s) ops) refl e (seen-more-ops s session txn ops)
  where
    by : (a b : Bool) → is_read s (key, value) ≡ a → (a || b) ≡ true → (b ≡ true → list_any (is_seen_write (with_transaction s session txn)) ops ≡ true)
        → (is_read (with_transaction s session txn) (key, value) || list_any (is_seen_write (with_transaction s session txn)) ops) ≡ true
    by true b is e more =
        left-or _ (list_any (is_seen_write (with_transaction s session txn)) ops)
        (read-with (key, value) s session txn ∙ left-or (is_read s (key, value)) (is_read_by (key, value) txn) is)
    by false b is e more =
        right-or (is_read (with_transaction s session txn) (key, value)) (list_any (is_seen_write (with_transaction s session txn)) ops) (more e)
      where
        right-or : (a b : Bool) → b ≡ true → (a || b) ≡ true
        right-or true b e = refl
        right-or false b e = e

-- what was seen stays so
pub seen-more : (s : Sessions) (session : List ℕ) (txn one : Transaction) → is_seen s one ≡ true → is_seen (with_transaction s session txn) one ≡ true
seen-more s session txn one e = seen-more-ops s session txn one.ops e
