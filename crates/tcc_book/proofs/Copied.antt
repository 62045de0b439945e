-- The copy of a book.
-- - taken: the transactions at a session's positions
-- - within: each position is in the journal
-- - parts-shown: the parts of the copy
-- - few-listed: no more transactions than records
-- - no-fault: the parts make a snapshot
use Rattle.std.proofs.Common.{◌≡◌, ℕ, ◌+◌, ◌≤◌, ◌<◌, All, Bool, true, false, cond, List, [], ◌∷◌, ◌++◌, length}
use Rattle.std.proofs.Common.{map, None, Some, refl, sym, ap, ◌∙◌, subst, arith, sum_by, append_assoc}
use Rattle.std.proofs.Common.{length-append}
use Rattle.std.specs.Prelude.{slice_index_or}
use Rattle.std.specs.List.{list_any, IsDistinct, AllByRecursion}
use Rattle.std.specs.Map.{keys_of}
use Rattle.std.specs.Global.{Vec}
use Rattle.std.proofs.lemmas.Bool.Decides.{nat_tests}
use Rattle.std.proofs.lemmas.Cmp.{nat_list_eq_equiv}
use Rattle.std.proofs.lemmas.List.{get_or_append_left, length-map, map-append}
use Rattle.std.proofs.lemmas.List.Elements.{All-cons, All-nil, All-head, All-tail, Contains-get_or}
use Rattle.std.proofs.lemmas.List.Sums.{sum_by-cons}
use Rattle.std.proofs.lemmas.Map.Views.{lookup-from_Contains}
use Rattle.std.proofs.Math.Seq.{get_or-append_seam}
use Rattle.indexmap.specs.IndexMap.{keys}
use Rattle.tcc_txn.specs.Bytes.{same}
use Rattle.tcc_txn.specs.Transactions.{Transaction}
use Rattle.tcc_txn.specs.Snapshots.{first_repeated, snapshot_fault}
use Rattle.tcc_txn.specs.declared.limits.TheConstants.{MAX_SESSIONS, MAX_TRANSACTIONS}
use Rattle.tcc_txn.proofs.SortedParts.{same_names}
use Rattle.tcc_txn.proofs.SnapshotFaults.{fault_by, no_fault}
use Rattle.std.proofs.lemmas.List.Folds.{list_any_none}
use Rattle.std.proofs.lemmas.Map.Keys.{apart_from_distinct}
use Rattle.tcc_book.specs.Books.{list_of}
use Rattle.tcc_book.specs.private.BookStorage.{AreWithin, IsStored, Positions, no_txn, part_at, positions_from, txn_at}
use Rattle.tcc_book.specs.declared.entry.Entry.{Entry}
use Rattle.tcc_book.proofs.Positions.{length-keys}

-- the transactions at the positions of a session are what it recorded
taken-from : (session : List ℕ) (front es : List Entry)
    → map (txn_at (front ++ es)) (positions_from session (length front) es) ≡ list_of session es
taken-from session front [] = refl
taken-from session front (e ∷ es) = by (taken-from session (front ++ e ∷ []) es) (same session e.session) refl
  where
    joined : (front ++ e ∷ []) ++ es ≡ front ++ e ∷ es
    joined = append_assoc front (e ∷ []) es

    next : length (front ++ e ∷ []) ≡ length front + 1
    next = length-append front (e ∷ [])

    here : txn_at (front ++ e ∷ es) (length front) ≡ e.txn
    here =
        let long : length (map (λ (d : Entry). d.txn) front) ≡ length front = length-map front (λ d. d.txn) in
        ap (λ ts. slice_index_or ts (length front) no_txn) (map-append (λ (d : Entry). d.txn) front (e ∷ es))
        ∙ ap (λ n. slice_index_or (map (λ (d : Entry). d.txn) front ++ e.txn ∷ map (λ (d : Entry). d.txn) es) n no_txn) (sym long)
        ∙ get_or-append_seam (map (λ (d : Entry). d.txn) front) e.txn (map (λ (d : Entry). d.txn) es) no_txn

    by : map (txn_at ((front ++ e ∷ []) ++ es)) (positions_from session (length (front ++ e ∷ [])) es) ≡ list_of session es
        → (b : Bool) → same session e.session ≡ b
        → map (txn_at (front ++ e ∷ es)) (positions_from session (length front) (e ∷ es)) ≡ list_of session (e ∷ es)
    by rest true is = rw is ((λ i. here i ∷ map (txn_at (sym joined i)) (positions_from session (sym next i) es)) ∙ ap (λ ts. e.txn ∷ ts) rest)
    by rest false is = rw is ((λ i. map (txn_at (sym joined i)) (positions_from session (sym next i) es)) ∙ rest)

pub taken : (session : List ℕ) (journal : List Entry) → map (txn_at journal) (positions_from session 0 journal) ≡ list_of session journal
taken session journal = taken-from session [] journal

-- each position of a session is one of the journal
positions-below : (session : List ℕ) (n : ℕ) (es : List Entry) → All (λ position. position < n + length es) (positions_from session n es)
positions-below session n [] = All-nil _
positions-below session n (e ∷ es) = by (positions-below session (n + 1) es) (same session e.session) refl
  where
    next : n + 1 + length es ≡ n + length (e ∷ es)
    next = omega arith

    by : All (λ position. position < n + 1 + length es) (positions_from session (n + 1) es) → (b : Bool) → same session e.session ≡ b
        → All (λ position. position < n + length (e ∷ es)) (positions_from session n (e ∷ es))
    by rest true is = rw is (All-cons (λ position. position < n + length (e ∷ es)) n (positions_from session (n + 1) es) (omega arith)
        (subst (λ m. All (λ position. position < m) (positions_from session (n + 1) es)) next rest))
    by rest false is = rw is (subst (λ m. All (λ position. position < m) (positions_from session (n + 1) es)) next rest)

-- the list of each session has the positions of its records
listed-at : (positions : Positions) (journal : List Entry) (k : ℕ) (d : List ℕ × Vec ℕ) → IsStored positions journal → k < length positions.entries
    → (slice_index_or positions.entries k d).1.items ≡ positions_from (slice_index_or positions.entries k d).0 0 journal
listed-at positions journal k d is within =
    let e = slice_index_or positions.entries k d in
    is.each e.0 e.1 (lookup-from_Contains nat_list_eq_equiv e.0 e.1 positions.entries is.once (Contains-get_or positions.entries k d within))

zero-more : (n : ℕ) → 0 + n ≡ n
zero-more n = omega arith

pub within : (positions : Positions) (journal : List Entry) → IsStored positions journal → AreWithin journal positions.entries
within positions journal is k d inside =
    let e = slice_index_or positions.entries k d in
    subst (All (λ position. position < length journal)) (sym (listed-at positions journal k d is inside))
    (subst (λ m. All (λ position. position < m) (positions_from e.0 0 journal)) (zero-more (length journal)) (positions-below e.0 0 journal))

-- the parts are the sessions with what they recorded
parts-listed : (journal : List Entry) (es : List (List ℕ × Vec ℕ)) → All (λ e. e.1.items ≡ positions_from e.0 0 journal) es
    → map (part_at journal) es ≡ map (λ session. (session, list_of session journal)) (keys_of es)
parts-listed journal [] listed = refl
parts-listed journal (e ∷ es) listed =
    λ i. (e.0, (ap (map (txn_at journal)) (All-head (λ (e : List ℕ × Vec ℕ). e.1.items ≡ positions_from e.0 0 journal) e es listed) ∙ taken e.0 journal) i)
    ∷ parts-listed journal es (All-tail (λ (e : List ℕ × Vec ℕ). e.1.items ≡ positions_from e.0 0 journal) e es listed) i

pub parts-shown : (positions : Positions) (journal : List Entry) → IsStored positions journal
    → map (part_at journal) positions.entries ≡ map (λ session. (session, list_of session journal)) (keys positions)
parts-shown positions journal is = parts-listed journal positions.entries (λ k d inside. listed-at positions journal k d is inside)

-- how often this name is among the names
abbrev tally : List ℕ → List (List ℕ) → ℕ
tally x names = sum_by (λ n. cond (same n x) 1 0) names

-- a name does not occur among names that differ from it
none-else : (n x : List ℕ) (ns : List (List ℕ)) → n ≡ x → AllByRecursion (λ y. same n y ≡ false) ns → tally x ns ≡ 0
none-else n x [] is all = refl
none-else n x (m ∷ ns) is all =
    let other : same m x ≡ false = ap (same m) (sym is) ∙ sym (nat_list_eq_equiv.symm n m) ∙ all.0 in
    sum_by-cons (λ k. cond (same k x) 1 0) m ns ∙ (λ i. cond (other i) 1 0 + none-else n x ns is all.1 i)

-- among different names each occurs at most once
one-name : (names : List (List ℕ)) (x : List ℕ) → IsDistinct same names → tally x names ≤ 1
unfolding IsDistinct
one-name [] x distinct = omega arith
one-name (n ∷ ns) x distinct = by (one-name ns x distinct.1) (same n x) refl
  where
    by : tally x ns ≤ 1 → (b : Bool) → same n x ≡ b → tally x (n ∷ ns) ≤ 1
    by rest true is =
        let none = none-else n x ns (same_names n x is) distinct.0 in
        let all = sum_by-cons (λ k. cond (same k x) 1 0) n ns ∙ ap (λ b. cond b 1 0 + tally x ns) is in
        omega (arith, all, none)
    by rest false is =
        let all = sum_by-cons (λ k. cond (same k x) 1 0) n ns ∙ ap (λ b. cond b 1 0 + tally x ns) is in
        omega (arith, all, rest)

-- one more record is one more transaction, of its session
one-more : (e : Entry) (es : List Entry) (n : List ℕ) → length (list_of n (e ∷ es)) ≡ length (list_of n es) + cond (same n e.session) 1 0
one-more e es n = by (same n e.session) refl
  where
    by : (b : Bool) → same n e.session ≡ b → length (list_of n (e ∷ es)) ≡ length (list_of n es) + cond (same n e.session) 1 0
    by true is = rw is (omega arith)
    by false is = rw is (omega arith)

all-more : (e : Entry) (es : List Entry) (names : List (List ℕ))
    → sum_by (λ n. length (list_of n (e ∷ es))) names ≡ sum_by (λ n. length (list_of n es)) names + tally e.session names
all-more e es [] = refl
all-more e es (n ∷ ns) =
    let whole = sum_by-cons (λ k. length (list_of k (e ∷ es))) n ns in
    let before = sum_by-cons (λ k. length (list_of k es)) n ns in
    let told = sum_by-cons (λ k. cond (same k e.session) 1 0) n ns in
    omega (arith, whole, before, told, one-more e es n, all-more e es ns)

no-records : (names : List (List ℕ)) → sum_by (λ n. length (list_of n [])) names ≡ 0
no-records [] = refl
no-records (n ∷ ns) = omega (arith, sum_by-cons (λ k. length (list_of k [])) n ns, no-records ns)

-- different sessions recorded at most as many transactions as there are records
pub few-listed : (names : List (List ℕ)) (journal : List Entry) → IsDistinct same names
    → sum_by (λ session. length (list_of session journal)) names ≤ length journal
few-listed names [] distinct = omega (arith, no-records names)
few-listed names (e ∷ es) distinct =
    omega (arith, all-more e es names, one-name names e.session distinct, few-listed names es distinct)

-- a name that is not among those before it
apart : (earlier : List (List ℕ)) (name : List ℕ) (later : List (List ℕ)) → IsDistinct same (earlier ++ name ∷ later) → list_any (same name) earlier ≡ false
apart earlier name later distinct = list_any_none (same name) earlier (λ k d inside.
    let all = earlier ++ name ∷ later in
    let long : length earlier < length all = omega (arith, length-append earlier (name ∷ later)) in
    let other : same (slice_index_or all k d) (slice_index_or all (length earlier) d) ≡ false =
    apart_from_distinct same all k (length earlier) d distinct inside long in
    let here : slice_index_or all k d ≡ slice_index_or earlier k d = get_or_append_left earlier (name ∷ later) d k inside in
    let there : slice_index_or all (length earlier) d ≡ name = get_or-append_seam earlier name later d in
    sym (nat_list_eq_equiv.symm (slice_index_or earlier k d) name) ∙ (λ i. same (sym here i) (sym there i)) ∙ other)

-- different names are not repeated
unrepeated : (earlier later : List (List ℕ)) → IsDistinct same (earlier ++ later) → first_repeated earlier later ≡ None
unrepeated earlier [] distinct = refl
unrepeated earlier (name ∷ later) distinct =
    ap (λ b. cond b (Some name) (first_repeated (earlier ++ name ∷ []) later)) (apart earlier name later distinct)
    ∙ unrepeated (earlier ++ name ∷ []) later (subst (IsDistinct same) (sym (append_assoc earlier (name ∷ []) later)) distinct)

-- the names of the parts, and how much they have
part-names : (journal : List Entry) (names : List (List ℕ)) → map (λ (part : List ℕ × List Transaction). part.0)
    (map (λ session. (session, list_of session journal)) names) ≡ names
part-names journal [] = refl
part-names journal (n ∷ ns) = ap (λ ms. n ∷ ms) (part-names journal ns)

part-sums : (journal : List Entry) (names : List (List ℕ))
    → sum_by (λ (part : List ℕ × List Transaction). length part.1) (map (λ session. (session, list_of session journal)) names)
    ≡ sum_by (λ session. length (list_of session journal)) names
part-sums journal [] = refl
part-sums journal (n ∷ ns) =
    sum_by-cons (λ (part : List ℕ × List Transaction). length part.1) (n, list_of n journal) (map (λ session. (session, list_of session journal)) ns)
    ∙ ap (λ k. length (list_of n journal) + k) (part-sums journal ns)
    ∙ sym (sum_by-cons (λ session. length (list_of session journal)) n ns)

-- the parts make a snapshot
pub no-fault : (positions : Positions) (journal : List Entry) → IsStored positions journal
    → snapshot_fault (map (λ session. (session, list_of session journal)) (keys positions)) ≡ None
no-fault positions journal is =
    let names = keys positions in
    let parts : List (List ℕ × List Transaction) = map (λ session. (session, list_of session journal)) names in
    let once : first_repeated [] (map (λ (part : List ℕ × List Transaction). part.0) parts) ≡ None =
    ap (first_repeated []) (part-names journal names) ∙ unrepeated [] names is.once in
    let part : List ℕ → List ℕ × List Transaction = λ session. (session, list_of session journal) in
    let few : length parts ≤ MAX_SESSIONS = omega (arith, length-map names part, length-keys positions, is.few) in
    let short : sum_by (λ (part : List ℕ × List Transaction). length part.1) parts ≤ MAX_TRANSACTIONS =
    omega (arith, part-sums journal names, few-listed names journal is.once, is.short) in
    ap (λ repeated. fault_by repeated (length parts) (sum_by (λ (part : List ℕ × List Transaction). length part.1) parts)) once
    ∙ no_fault (length parts) (sum_by (λ (part : List ℕ × List Transaction). length part.1) parts) few (grind (arith, nat_tests, short))
