-- What lawful lines finish keeps the limits of a snapshot, even with all transactions of unknown outcome. Each such
-- transaction was begun, and each session with one has begun one.
use Rattle.std.proofs.Common.{◌≡◌, ℕ, ◌+◌, ◌-◌, ◌≤◌, Bool, true, false, cond, ◌||◌, T, List, [], ◌∷◌, ◌++◌, map, length, sum_by}
use Rattle.std.proofs.Common.{refl, sym, ap, subst, ◌∙◌, arith, Option, None, Some, Result, Ok, Err, append_assoc, append-nil}
use Rattle.std.proofs.Common.{nat_lt}
use Rattle.std.specs.Prelude.{fold, is_some, unwrap_or}
use Rattle.std.specs.Option.{option_map_or}
use Rattle.std.specs.List.{AllByRecursion, IsDistinct, list_any}
use Rattle.std.specs.FinMap as finite
use Rattle.std.specs.FinMap.Entries.{below_all, is_sorted}
use Rattle.std.specs.Cmp.{eq_by_cmp_equiv}
use Rattle.std.specs.Cmp.Lexicographic.{nat_list_cmp_total, texts_ties}
use Rattle.std.specs.Ordering.{eq_by_cmp, is_eq}
use Rattle.std.proofs.lemmas.Bool.Decides.{nat_tests}
use Rattle.std.proofs.lemmas.List.{length-map}
use Rattle.std.proofs.lemmas.Map.Lookups.{exact_bytes}
use Rattle.std.proofs.lemmas.Map.Made.{length-le_from_is_member}
use Rattle.tcc_rows.specs.Answers.{Answers, after_item, answers_after_within, given_within, go_on, judged_within, records_within}
use Rattle.tcc_txn.specs.Finished.{IsWithinLimits, transaction_count, with_transaction}
use Rattle.tcc_rows.specs.Items.{finished_in, with_item}
use Rattle.tcc_txn.specs.Limits.{most_sessions, most_transactions}
use Rattle.tcc_txn.specs.Bytes.{same}
use Rattle.tcc_rows.specs.Lines.{Record, is_cut, line_of}
use Rattle.tcc_rows.specs.Past.{begin_count, fault_in_time, fault_within, is_begun, is_late, item_of, ops_since, sessions, writes_of}
use Rattle.tcc_txn.specs.Snapshots.{Sessions, first_repeated, snapshot_fault_within}
use Rattle.tcc_txn.specs.Transactions.{Transaction}
use Rattle.tcc_txn.specs.declared.limits.Limits.{Limits}
use Rattle.tcc_rows.specs.declared.rows.Item.{Item}
use Rattle.tcc_rows.specs.declared.rows.Item.TheVariants as item
use Rattle.tcc_rows.specs.declared.fault.RowFaultKind.{RowFaultKind}
use Rattle.tcc_rows.specs.declared.fault.RowFaultKind.TheVariants as kind
use Rattle.tcc_rows.specs.Line.{Line}
use Rattle.tcc_rows.specs.Line as line
use Rattle.tcc_txn.proofs.Growing.{both-parts, less-if}
use Rattle.tcc_txn.proofs.GrownSnapshot.{count-with_transaction, len-with_transaction}
use Rattle.tcc_rows.proofs.PastFacts.{begun-seen, same-itself, same-name, same-swap, seen-noted, seen-other}
use Rattle.tcc_txn.proofs.SnapshotFaults.{fault_by_within, faultless_within}
use Rattle.tcc_txn.proofs.SortedParts.{name_cmp}

pub fold-append : {A B : Type 0} (f : B → A → B) (start : B) (xs ys : List A) → fold f start (xs ++ ys) ≡ fold f (fold f start xs) ys
fold-append f start [] ys = refl
fold-append f start (x ∷ xs) ys = fold-append f (f start x) xs ys

pub finished_in-append : (xs ys : List Item) → finished_in (xs ++ ys) ≡ fold with_item (finished_in xs) ys
finished_in-append xs ys = fold-append with_item finite.empty xs ys

pub finished_in-push : (xs : List Item) (x : Item) → finished_in (xs ++ x ∷ []) ≡ with_item (finished_in xs) x
finished_in-push xs x = finished_in-append xs (x ∷ [])

-- no item takes anything away
at-least : (b : Bool) (n : ℕ) → n ≤ cond b n (n + 1)
at-least true n = omega arith
at-least false n = omega arith

no-fewer_sessions : (s : Sessions) (items : List Item) → finite.len s ≤ finite.len (fold with_item s items)
no-fewer_sessions s [] = omega arith
no-fewer_sessions s (item.Finished session txn ∷ items) =
    let more = no-fewer_sessions (with_transaction s session txn) items in
    let one = at-least (finite.contains_key s session) (finite.len s) in
    omega (arith, more, one, len-with_transaction s session txn)
no-fewer_sessions s (item.Unknown session txn ∷ items) = no-fewer_sessions s items
no-fewer_sessions s (item.Seal ∷ items) = no-fewer_sessions s items
no-fewer_sessions s (item.End ∷ items) = no-fewer_sessions s items

no-fewer_transactions : (s : Sessions) (items : List Item) → transaction_count s ≤ transaction_count (fold with_item s items)
no-fewer_transactions s [] = omega arith
no-fewer_transactions s (item.Finished session txn ∷ items) =
    let more = no-fewer_transactions (with_transaction s session txn) items in
    omega (arith, more, count-with_transaction s session txn)
no-fewer_transactions s (item.Unknown session txn ∷ items) = no-fewer_transactions s items
no-fewer_transactions s (item.Seal ∷ items) = no-fewer_transactions s items
no-fewer_transactions s (item.End ∷ items) = no-fewer_transactions s items

-- the items of some lines, newest line first
abbrev pub pushed : Option Item → List Item → List Item
pushed None items = items
pushed (Some last) items = items ++ last ∷ []

abbrev pub items_in : List Line → List Item
items_in [] = []
items_in (last ∷ past) = pushed (item_of past last) (items_in past)

abbrev pub finished_by : List Line → Sessions
finished_by past = finished_in (items_in past)

-- what some items finish, if all with unknown outcome count as committed
abbrev pub with_any : Sessions → Item → Sessions
with_any s (item.Finished session txn) = with_transaction s session txn
with_any s (item.Unknown session txn) = with_transaction s session txn
with_any s item.Seal = s
with_any s item.End = s

abbrev pub all_in : List Item → Sessions
all_in items = fold with_any finite.empty items

all_in-append : (xs ys : List Item) → all_in (xs ++ ys) ≡ fold with_any (all_in xs) ys
all_in-append xs ys = fold-append with_any finite.empty xs ys

all_in-push : (xs : List Item) (x : Item) → all_in (xs ++ x ∷ []) ≡ with_any (all_in xs) x
all_in-push xs x = all_in-append xs (x ∷ [])

abbrev all_by : List Line → Sessions
all_by past = all_in (items_in past)

-- a line without a fault, of a session that hasn't ended
pub late-free : {X : Type 0} (a : Bool) (x : X) (y : Option X) → cond a (Some x) y ≡ None → (a ≡ false) × (y ≡ None)
late-free true x y e = cc
late-free false x y e = (refl, e)

-- a begin without a fault
pub no-begin-fault : {X : Type 0} (a b c : Bool) (x y z : X) → cond a (Some x) (cond b (Some y) (cond c (Some z) None)) ≡ None
    → (a ≡ false) × (b ≡ false) × (c ≡ false)
no-begin-fault true b c x y z e = cc
no-begin-fault false true c x y z e = cc
no-begin-fault false false true x y z e = cc
no-begin-fault false false false x y z e = (refl, refl, refl)

pub no-finish-fault : {X : Type 0} (a : Bool) (x : X) → cond a None (Some x) ≡ None → a ≡ true
no-finish-fault true x e = refl
no-finish-fault false x e = cc

pub fits : (most n : ℕ) → nat_lt most n ≡ false → n ≤ most
fits most n e = grind (arith, nat_tests, e)

exact-same : (a b : List ℕ) → same a b ≡ true → a ≡ b
exact-same a b e = same-name a b e

-- names in a map
pub tied-same : (q s : List ℕ) → eq_by_cmp name_cmp q s ≡ same s q
tied-same q s = sym (texts_ties q s) ∙ same-swap q s

some-not-none : {X : Type 0} (o : Option X) → is_some o ≡ false → o ≡ None
some-not-none None e = refl
some-not-none (Some x) e = cc

pub is-false : (b : Bool) → (b ≡ true → ⊥) → b ≡ false
is-false b never = by b refl
  where
    by : (c : Bool) → b ≡ c → b ≡ false
    by true e = absurd (never e)
    by false e = e

abbrev pub has : Sessions → List ℕ → Bool
has m q = finite.contains_key m q

pub has-insert : (m : Sessions) (s q : List ℕ) (v : List Transaction) → has (finite.insert m s v) q ≡ cond (same s q) true (has m q)
has-insert m s q v =
    ap is_some (finite.get-insert nat_list_cmp_total m s v q) ∙ ap (λ b. is_some (cond b (Some v) (finite.get m q))) (tied-same q s) ∙ by (same s q)
  where
    by : (b : Bool) → is_some (cond b (Some v) (finite.get m q)) ≡ cond b true (has m q)
    by true = refl
    by false = refl

has-remove : (m : Sessions) (s q : List ℕ) → has (finite.remove m s) q ≡ cond (same s q) false (has m q)
has-remove m s q =
    ap is_some (finite.get-remove nat_list_cmp_total m s q) ∙ ap (λ b. is_some (cond b None (finite.get m q))) (tied-same q s) ∙ by (same s q)
  where
    by : (b : Bool) → is_some (cond b None (finite.get m q)) ≡ cond b false (has m q)
    by true = refl
    by false = refl

differ : false ≡ true → ⊥
differ e = cc

nothing-empty : (q : List ℕ) → has finite.empty q ≡ true → ⊥
nothing-empty q h = differ (sym (ap is_some (finite.get-empty name_cmp q)) ∙ h)

len-none : (m : Sessions) → ((q : List ℕ) → has m q ≡ true → ⊥) → finite.len m ≡ 0
len-none m none =
    ap finite.len (finite.same_map nat_list_cmp_total exact_bytes m finite.empty
    (λ q. some-not-none (finite.get m q) (is-false (has m q) (none q)) ∙ sym (finite.get-empty name_cmp q)))
    ∙ finite.len-empty name_cmp (List Transaction)

one-less : (b : Bool) (n : ℕ) → n ≤ cond b (n - 1) n + 1
one-less true n = omega arith
one-less false n = omega arith

no-entries : {X : Type 0} (es : List X) → length es ≡ 0 → es ≡ []
no-entries [] e = refl
no-entries (x ∷ es) e = absurd (omega arith)

count-empty : transaction_count finite.empty ≡ 0
count-empty =
    ap (sum_by (λ named. length named.1))
    (no-entries (finite.entries finite.empty) (sym (finite.len-entries finite.empty) ∙ finite.len-empty name_cmp (List Transaction)))

-- the names of a map differ
all-apart : {X : Type 0} (name : List ℕ) (es : List (List ℕ × X)) → T (below_all name_cmp name es)
    → AllByRecursion (λ other. eq_by_cmp name_cmp name other ≡ false) (map (λ e. e.0) es)
all-apart name [] below = tt
all-apart name (e ∷ es) below = (ap is_eq (less-if _ (both-parts _ _ below).0), all-apart name es (both-parts _ _ below).1)

pub distinct-keys : {X : Type 0} (es : List (List ℕ × X)) → T (is_sorted name_cmp es) → IsDistinct (eq_by_cmp name_cmp) (map (λ e. e.0) es)
unfolding IsDistinct
distinct-keys [] sorted = tt
distinct-keys (e ∷ es) sorted = (all-apart e.0 es (both-parts _ _ sorted).0, distinct-keys es (both-parts _ _ sorted).1)

any-same : (q : List ℕ) (names : List (List ℕ)) → list_any (eq_by_cmp name_cmp q) names ≡ list_any (same q) names
any-same q [] = refl
any-same q (name ∷ names) = λ i. sym (texts_ties q name) i || any-same q names i

-- what keeps the limits is not a fault of a snapshot
all-at : {X : Type 0} (P : X → Type 0) (front : List X) (x : X) (back : List X) → AllByRecursion P (front ++ x ∷ back) → P x
all-at P [] x back all = all.0
all-at P (y ∷ front) x back all = all-at P front x back all.1

apart-before : (earlier : List (List ℕ)) (name : List ℕ) (later : List (List ℕ)) → IsDistinct (eq_by_cmp name_cmp) (earlier ++ name ∷ later)
    → list_any (same name) earlier ≡ false
unfolding IsDistinct
apart-before [] name later distinct = refl
apart-before (other ∷ earlier) name later distinct =
    let differ : same name other ≡ false = sym (tied-same other name) ∙ all-at (λ n. eq_by_cmp name_cmp other n ≡ false) earlier name later distinct.0 in
    rw differ (apart-before earlier name later distinct.1)

none-repeated : (earlier later : List (List ℕ)) → IsDistinct (eq_by_cmp name_cmp) (earlier ++ later) → first_repeated earlier later ≡ None
none-repeated earlier [] distinct = refl
none-repeated earlier (name ∷ later) distinct =
    rw (apart-before earlier name later distinct)
    (none-repeated (earlier ++ name ∷ []) later (subst (IsDistinct (eq_by_cmp name_cmp)) (sym (append_assoc earlier (name ∷ []) later)) distinct))

module _ (limits : Limits) where
  -- what keeps the limits with more items keeps them without these
  pub within-before : (s : Sessions) (items : List Item) → IsWithinLimits limits (fold with_item s items) → IsWithinLimits limits s
  within-before s items kept =
      let sessions = no-fewer_sessions s items in
      let transactions = no-fewer_transactions s items in
      (omega (arith, kept.0, sessions), omega (arith, kept.1, transactions))

  -- what keeps the limits kept them before its last items
  pub limits-before : (xs ys : List Item) → IsWithinLimits limits (finished_in (xs ++ ys)) → IsWithinLimits limits (finished_in xs)
  limits-before xs ys kept =
      let whole : IsWithinLimits limits (fold with_item (finished_in xs) ys) = subst (IsWithinLimits limits) (finished_in-append xs ys) kept in
      let sessions = no-fewer_sessions (finished_in xs) ys in
      let transactions = no-fewer_transactions (finished_in xs) ys in
      (omega (arith, whole.0, sessions), omega (arith, whole.1, transactions))

  -- each line is lawful after those before it
  abbrev pub AreLawful : List Line → Type 0
  AreLawful [] = Unit {0}
  AreLawful (last ∷ past) = (fault_within limits past last ≡ None) × AreLawful past

  pub in-time : (past : List Line) (l : Line) → fault_within limits past l ≡ None → (is_late past l ≡ false) × (fault_in_time limits past l ≡ None)
  in-time past l none = late-free (is_late past l) kind.SessionEnded (fault_in_time limits past l) none

  faultless-begin : (past : List Line) (session : List ℕ) → fault_within limits past (line.Begin session) ≡ None
      → (nat_lt (most_sessions limits) (length (sessions (line.Begin session ∷ past))) ≡ false)
      × (nat_lt (most_transactions limits) (begin_count (line.Begin session ∷ past)) ≡ false)
  faultless-begin past session none =
      let all = no-begin-fault (is_begun session past) (nat_lt (most_sessions limits) (length (sessions (line.Begin session ∷ past))))
      (nat_lt (most_transactions limits) (begin_count (line.Begin session ∷ past))) kind.AlreadyBegun kind.TooManySessions kind.TooManyTransactions
      (in-time past (line.Begin session) none).1 in
      (all.1, all.2)

  pub few_begun : (past : List Line) → AreLawful past → begin_count past ≤ most_transactions limits
  few_begun [] lawful = omega arith
  few_begun (line.Seal ∷ past) lawful = few_begun past lawful.1
  few_begun (line.Begin session ∷ past) lawful = fits (most_transactions limits) _ (faultless-begin past session lawful.0).1
  few_begun (line.Finish session committed ∷ past) lawful = few_begun past lawful.1
  few_begun (line.Unknown session ∷ past) lawful = few_begun past lawful.1
  few_begun (line.Operation session op ∷ past) lawful = few_begun past lawful.1

  pub few_seated : (past : List Line) → AreLawful past → length (sessions past) ≤ most_sessions limits
  few_seated [] lawful = omega arith
  few_seated (line.Seal ∷ past) lawful = few_seated past lawful.1
  few_seated (line.Begin session ∷ past) lawful = fits (most_sessions limits) _ (faultless-begin past session lawful.0).0
  few_seated (line.Finish session committed ∷ past) lawful = few_seated past lawful.1
  few_seated (line.Unknown session ∷ past) lawful = few_seated past lawful.1
  few_seated (line.Operation session op ∷ past) lawful = few_seated past lawful.1

  -- each finished transaction was begun, and so was each one that sessions of a map have begun
  begun-finished : (past : List Line) → AreLawful past → (m : Sessions) → ((q : List ℕ) → has m q ≡ true → is_begun q past ≡ true)
      → transaction_count (all_by past) + finite.len m ≤ begin_count past
  begun-finished [] lawful m begun =
      let none : finite.len m ≡ 0 = len-none m (λ q h. differ (begun q h)) in
      omega (arith, none, count-empty)
  begun-finished (line.Seal ∷ past) lawful m begun =
      subst (λ s. transaction_count s + finite.len m ≤ begin_count past) (sym (all_in-push (items_in past) item.Seal)) (begun-finished past lawful.1 m begun)
  begun-finished (line.Begin s ∷ past) lawful m begun =
      let others : (q : List ℕ) → has (finite.remove m s) q ≡ true → is_begun q past ≡ true
      = λ q h. other (same s q) (has m q) (is_begun q past) (sym (has-remove m s q) ∙ h) (begun q) in
      let more = begun-finished past lawful.1 (finite.remove m s) others in
      let less = one-less (has m s) (finite.len m) in
      omega (arith, more, less, finite.len-remove nat_list_cmp_total m s)
    where
      other : (b h o : Bool) → cond b false h ≡ true → (h ≡ true → cond b true o ≡ true) → o ≡ true
      other true h o e more = cc
      other false h o e more = more e
  begun-finished (line.Finish s committed ∷ past) lawful m begun =
      let started : is_begun s past ≡ true = no-finish-fault (is_begun s past) kind.NotBegun (in-time past (line.Finish s committed) lawful.0).1 in
      let absent : has m s ≡ false = is-false (has m s) (λ h. closed (same s s) (is_begun s past) (same-itself s) (begun s h)) in
      let others : (q : List ℕ) → has (finite.insert m s []) q ≡ true → is_begun q past ≡ true
      =
      λ q h. other (same s q) (has m q) (is_begun q past) (sym (has-insert m s q []) ∙ h) (begun q)
      (λ e. subst (λ n. is_begun n past ≡ true) (exact-same s q e) started) in
      let more = begun-finished past lawful.1 (finite.insert m s []) others in
      let longer : finite.len (finite.insert m s []) ≡ finite.len m + 1
      = finite.len-insert nat_list_cmp_total m s [] ∙ ap (λ b. cond b (finite.len m) (finite.len m + 1)) absent in
      let txn : Transaction = record { ops = ops_since s past; committed = committed } in
      let counted : transaction_count (all_by (line.Finish s committed ∷ past)) ≡ transaction_count (all_by past) + 1
      = ap transaction_count (all_in-push (items_in past) (item.Finished s txn)) ∙ count-with_transaction (all_by past) s txn in
      omega (arith, more, longer, counted)
    where
      closed : (b o : Bool) → b ≡ true → cond b false o ≡ true → ⊥
      closed true o e h = cc
      closed false o e h = cc

      other : (b h o : Bool) → cond b true h ≡ true → (h ≡ true → cond b false o ≡ true) → (b ≡ true → o ≡ true) → o ≡ true
      other true h o e more here = here refl
      other false h o e more here = more e
  begun-finished (line.Unknown s ∷ past) lawful m begun =
      let started : is_begun s past ≡ true = no-finish-fault (is_begun s past) kind.NotBegun (in-time past (line.Unknown s) lawful.0).1 in
      let absent : has m s ≡ false = is-false (has m s) (λ h. closed (same s s) (is_begun s past) (same-itself s) (begun s h)) in
      let others : (q : List ℕ) → has (finite.insert m s []) q ≡ true → is_begun q past ≡ true
      =
      λ q h. other (same s q) (has m q) (is_begun q past) (sym (has-insert m s q []) ∙ h) (begun q)
      (λ e. subst (λ n. is_begun n past ≡ true) (exact-same s q e) started) in
      let more = begun-finished past lawful.1 (finite.insert m s []) others in
      let longer : finite.len (finite.insert m s []) ≡ finite.len m + 1
      = finite.len-insert nat_list_cmp_total m s [] ∙ ap (λ b. cond b (finite.len m) (finite.len m + 1)) absent in
      let txn : Transaction = record { ops = writes_of (ops_since s past); committed = true } in
      let counted : transaction_count (all_by (line.Unknown s ∷ past)) ≡ transaction_count (all_by past) + 1
      = ap transaction_count (all_in-push (items_in past) (item.Unknown s txn)) ∙ count-with_transaction (all_by past) s txn in
      omega (arith, more, longer, counted)
    where
      closed : (b o : Bool) → b ≡ true → cond b false o ≡ true → ⊥
      closed true o e h = cc
      closed false o e h = cc

      other : (b h o : Bool) → cond b true h ≡ true → (h ≡ true → cond b false o ≡ true) → (b ≡ true → o ≡ true) → o ≡ true
      other true h o e more here = here refl
      other false h o e more here = more e
  begun-finished (line.Operation s op ∷ past) lawful m begun = begun-finished past lawful.1 m begun

  -- a session with a finished transaction has begun one
  seated-finished : (past : List Line) → AreLawful past → (q : List ℕ) → has (all_by past) q ≡ true → list_any (same q) (sessions past) ≡ true
  seated-finished [] lawful q h = absurd (nothing-empty q h)
  seated-finished (line.Seal ∷ past) lawful q h =
      seated-finished past lawful.1 q (ap (λ s. has s q) (sym (all_in-push (items_in past) item.Seal)) ∙ h)
  seated-finished (line.Begin s ∷ past) lawful q h = by (same s q) refl (seated-finished past lawful.1 q h)
    where
      by : (b : Bool) → same s q ≡ b → list_any (same q) (sessions past) ≡ true → list_any (same q) (sessions (line.Begin s ∷ past)) ≡ true
      by true e more = seen-noted s q (sessions past) e
      by false e more = seen-other s q (sessions past) e ∙ more
  seated-finished (line.Finish s committed ∷ past) lawful q h =
      let txn : Transaction = record { ops = ops_since s past; committed = committed } in
      let found = ap (λ m. has m q) (sym (all_in-push (items_in past) (item.Finished s txn))) ∙ h in
      by (same s q) refl (sym (has-insert (all_by past) s q (unwrap_or (finite.get (all_by past) s) [] ++ txn ∷ [])) ∙ found)
      (seated-finished past lawful.1 q)
    where
      by : (b : Bool) → same s q ≡ b → cond b true (has (all_by past) q) ≡ true
          → (has (all_by past) q ≡ true → list_any (same q) (sessions past) ≡ true) → list_any (same q) (sessions past) ≡ true
      by true e found more = begun-seen q past (subst (λ n. is_begun n past ≡ true) (exact-same s q e) (no-finish-fault (is_begun s past) kind.NotBegun (in-time past (line.Finish s committed) lawful.0).1))
      by false e found more = more found
  seated-finished (line.Unknown s ∷ past) lawful q h =
      let txn : Transaction = record { ops = writes_of (ops_since s past); committed = true } in
      let found = ap (λ m. has m q) (sym (all_in-push (items_in past) (item.Unknown s txn))) ∙ h in
      by (same s q) refl (sym (has-insert (all_by past) s q (unwrap_or (finite.get (all_by past) s) [] ++ txn ∷ [])) ∙ found)
      (seated-finished past lawful.1 q)
    where
      by : (b : Bool) → same s q ≡ b → cond b true (has (all_by past) q) ≡ true
          → (has (all_by past) q ≡ true → list_any (same q) (sessions past) ≡ true) → list_any (same q) (sessions past) ≡ true
      by true e found more = begun-seen q past (subst (λ n. is_begun n past ≡ true) (exact-same s q e) (no-finish-fault (is_begun s past) kind.NotBegun (in-time past (line.Unknown s) lawful.0).1))
      by false e found more = more found
  seated-finished (line.Operation s op ∷ past) lawful q h = seated-finished past lawful.1 q h

  few-finished : (past : List Line) → AreLawful past → finite.len (all_by past) ≤ length (sessions past)
  few-finished past lawful =
      let m = all_by past in
      let fewer : length (finite.keys m) ≤ length (sessions past)
      = length-le_from_is_member (eq_by_cmp_equiv nat_list_cmp_total) (finite.keys m) (sessions past) (distinct-keys (finite.entries m) (finite.entries_sorted m))
      (λ q h. any-same q (sessions past) ∙ seated-finished past lawful q (finite.contains_key-keys m q ∙ h)) in
      omega (arith, fewer, finite.len-entries m, length-map (finite.entries m) (λ e. e.0))

  lawful-limits : (past : List Line) → AreLawful past → IsWithinLimits limits (all_by past)
  lawful-limits past lawful =
      let transactions = begun-finished past lawful finite.empty (λ q h. absurd (nothing-empty q h)) in
      (omega (arith, few-finished past lawful, few_seated past lawful), omega (arith, transactions, few_begun past lawful))

  -- a record that is accepted is lawful
  pub judged-free : (past : List Line) (fields : Record) (last : Line) → judged_within limits past fields ≡ Ok last → fault_within limits past last ≡ None
  judged-free past fields last = by (is_cut fields) (line_of fields) refl refl
    where
      of : (found : Line) (o : Option RowFaultKind) → fault_within limits past found ≡ o → option_map_or Err o (Ok found) ≡ Ok last → fault_within limits past last ≡ None
      of found None free e = (let here : found ≡ last = cc in subst (λ l. fault_within limits past l ≡ None) here free)
      of found (Some k) free e = cc

      by : (cut : Bool) (r : Result Line RowFaultKind) → is_cut fields ≡ cut → line_of fields ≡ r → judged_within limits past fields ≡ Ok last → fault_within limits past last ≡ None
      by true r whole is e = (let faulty : judged_within limits past fields ≡ Err kind.Read = rw whole refl in cc)
      by false (Err k) whole is e = (let faulty : judged_within limits past fields ≡ Err k = rw (whole, is) refl in cc)
      by false (Ok found) whole is e =
          let after : judged_within limits past fields ≡ option_map_or Err (fault_within limits past found) (Ok found) = rw (whole, is) refl in
          of found (fault_within limits past found) refl (sym after ∙ e)

  -- the items of all lines that follow lawful ones keep the limits
  limits-after : (left : List Record) (past : List Line) → AreLawful past → IsWithinLimits limits (all_in (items_in past ++ (answers_after_within limits past left).items))
  limits-after [] past lawful = subst (λ items. IsWithinLimits limits (all_in items)) (sym (append-nil (items_in past))) (lawful-limits past lawful)
  limits-after (fields ∷ rest) past lawful = by (judged_within limits past fields) refl (limits-after rest)
    where
      more : (o : Option Item) (ahead : Answers) → IsWithinLimits limits (all_in (pushed o (items_in past) ++ ahead.items))
          → IsWithinLimits limits (all_in (items_in past ++ (after_item o ahead).items))
      more None ahead kept = kept
      more (Some first) ahead kept = subst (λ items. IsWithinLimits limits (all_in items)) (append_assoc (items_in past) (first ∷ []) ahead.items) kept

      by : (r : Result Line RowFaultKind) → judged_within limits past fields ≡ r
          → ((lines : List Line) → AreLawful lines → IsWithinLimits limits (all_in (items_in lines ++ (answers_after_within limits lines rest).items)))
          → IsWithinLimits limits (all_in (items_in past ++ (go_on past (λ lines. answers_after_within limits lines rest) r).items))
      by (Err k) e next = subst (λ items. IsWithinLimits limits (all_in items)) (sym (append-nil (items_in past))) (lawful-limits past lawful)
      by (Ok last) e next = more (item_of past last) (answers_after_within limits (last ∷ past) rest) (next (last ∷ past) (judged-free past fields last e, lawful))

  -- what a text's records finish keeps the limits of a snapshot, even with all of unknown outcome
  pub all-limits : (text : List ℕ) → IsWithinLimits limits (all_in (given_within limits text).items)
  all-limits text = limits-after (records_within limits text) [] tt

  pub no-snapshot-fault : (s : Sessions) → IsWithinLimits limits s → snapshot_fault_within limits (finite.entries s) ≡ None
  no-snapshot-fault s kept =
      let es = finite.entries s in
      let few : length es ≤ most_sessions limits = omega (arith, kept.0, finite.len-entries s) in
      let short : nat_lt (most_transactions limits) (transaction_count s) ≡ false = grind (arith, nat_tests, kept.1) in
      ap (λ repeated. fault_by_within limits repeated (length es) (transaction_count s)) (none-repeated [] (map (λ e. e.0) es) (distinct-keys es (finite.entries_sorted s)))
      ∙ faultless_within limits (length es) (transaction_count s) few short
