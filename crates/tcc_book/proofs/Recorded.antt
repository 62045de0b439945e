-- A book after one more record.
use Rattle.std.proofs.Common.{◌≡◌, ℕ, ◌+◌, ◌≤◌, ◌<◌, Bool, true, false, cond, List, [], ◌∷◌, ◌++◌, length, Option, None, Some}
use Rattle.std.proofs.Common.{refl, sym, ap, ◌∙◌, subst, arith, is_some, ◌&&◌, length-append, append-nil, inl, inr, Err}
use Rattle.std.proofs.Common.{true≢false, ◌≢◌}
use Rattle.std.specs.List.{list_all}
use Rattle.std.specs.Global.{Vec}
use Rattle.std.proofs.lemmas.Cmp.{nat_list_eq_equiv}
use Rattle.std.proofs.lemmas.List.Folds.{list_all-append}
use Rattle.indexmap.specs.IndexMap.{get, keys, index_map_len, WritesThrough}
use Rattle.tcc_txn.specs.Bytes.{same}
use Rattle.tcc_txn.specs.Transactions.{Transaction}
use Rattle.tcc_txn.specs.declared.limits.TheConstants.{MAX_SESSIONS, MAX_TRANSACTIONS}
use Rattle.tcc_txn.proofs.SortedParts.{same_names}
use Rattle.tcc_book.specs.Books.{Book, Matches, Records}
use Rattle.tcc_book.specs.private.BookStorage.{Positions, AddsPosition, IsStored, Keeps, Relists, positions_from}
use Rattle.tcc_book.specs.declared.entry.Entry.{Entry}
use Rattle.tcc_book.specs.declared.fault.RecordFault.{RecordFault}
use Rattle.tcc_book.specs.declared.fault.RecordFault.TheVariants as refused
use Rattle.tcc_book.proofs.Positions.{length-keys, length-positions, open-found, positions-more}

-- a list that was updated
pub relists : (old new : Positions) (session : List ℕ) (list list' : Vec ℕ) (items : List ℕ) → get same old session ≡ Some list
    → list'.items ≡ items → WritesThrough same (same session) old list' new → Relists old session list items new
relists old new session list list' items found listed written = record {
  found = found;
  list' = list';
  listed = listed;
  updates = written.3 (ap is_some found);
  names = written.1;
  once = written.4;
}

-- the sessions that were found are still found
still : (old new : Positions) (session : List ℕ) (list list' : Vec ℕ) (q : List ℕ) → get same old session ≡ Some list
    → get same new q ≡ cond (same session q) (Some list') (get same old q) → is_some (get same new q) ≡ is_some (get same old q)
still old new session list list' q found updated = by (same session q) refl
  where
    by : (b : Bool) → same session q ≡ b → is_some (get same new q) ≡ is_some (get same old q)
    by true is =
        ap is_some (updated ∙ ap (λ b. cond b (Some list') (get same old q)) is) ∙ sym (ap is_some (ap (get same old) (sym (same_names session q is)) ∙ found))
    by false is = ap is_some (updated ∙ ap (λ b. cond b (Some list') (get same old q)) is)

all-still : (old new : Positions) (es : List Entry) → ((q : List ℕ) → is_some (get same new q) ≡ is_some (get same old q))
    → list_all (λ e. is_some (get same new e.session)) es ≡ list_all (λ e. is_some (get same old e.session)) es
all-still old new [] kept = refl
all-still old new (e ∷ es) kept = λ i. kept e.session i && all-still old new es kept i

few-names : (old new : Positions) → keys new ≡ keys old → index_map_len old ≤ MAX_SESSIONS → index_map_len new ≤ MAX_SESSIONS
few-names old new kept few = omega (arith, length-keys old, length-keys new, ap length kept, few)

-- a list as it was
pub relisted : (old new : Positions) (journal : List Entry) (session : List ℕ) (list : Vec ℕ) → IsStored old journal
    → Relists old session list list.items new → IsStored new journal
relisted old new journal session list is changed = record {
  each = λ q found at. by q found at (same session q) refl;
  known = all-still old new journal (λ q. still old new session list changed.list' q changed.found (changed.updates.0 q)) ∙ is.known;
  once = changed.once;
  few = few-names old new changed.names is.few;
  short = is.short;
}
  where
    by : (q : List ℕ) (found : Vec ℕ) → get same new q ≡ Some found → (b : Bool) → same session q ≡ b → found.items ≡ positions_from q 0 journal
    by q found at true alike =
        let first : Some changed.list' ≡ Some found = sym (ap (λ b. cond b (Some changed.list') (get same old q)) alike) ∙ sym (changed.updates.0 q) ∙ at in
        let one : changed.list' ≡ found = cc first in
        let before : get same old q ≡ Some list = ap (get same old) (sym (same_names session q alike)) ∙ changed.found in
        ap (λ v. v.items) (sym one) ∙ changed.listed ∙ is.each q list before
    by q found at false apart =
        is.each q found (sym (ap (λ b. cond b (Some changed.list') (get same old q)) apart) ∙ sym (changed.updates.0 q) ∙ at)

-- a list with one more position
pub recorded : (old new : Positions) (journal : List Entry) (entry : Entry) (list : Vec ℕ) → IsStored old journal → length journal < MAX_TRANSACTIONS
    → Relists old entry.session list (list.items ++ length journal ∷ []) new → IsStored new (journal ++ entry ∷ [])
recorded old new journal entry list is room changed = record {
  each = λ q found at. by q found at (same entry.session q) refl;
  known = known;
  once = changed.once;
  few = few-names old new changed.names is.few;
  short = omega (arith, length-append journal (entry ∷ []), room);
}
  where
    next : 0 + length journal ≡ length journal
    next = omega arith

    kept : (q : List ℕ) → is_some (get same new q) ≡ is_some (get same old q)
    kept q = still old new entry.session list changed.list' q changed.found (changed.updates.0 q)

    known : list_all (λ e. is_some (get same new e.session)) (journal ++ entry ∷ []) ≡ true
    known =
        list_all-append (λ e. is_some (get same new e.session)) journal (entry ∷ [])
        ∙ (λ i. (all-still old new journal kept ∙ is.known) i && ((kept entry.session ∙ ap is_some changed.found) i && true))

    by : (q : List ℕ) (found : Vec ℕ) → get same new q ≡ Some found → (b : Bool) → same entry.session q ≡ b
        → found.items ≡ positions_from q 0 (journal ++ entry ∷ [])
    by q found at true alike =
        let first : Some changed.list' ≡ Some found = sym (ap (λ b. cond b (Some changed.list') (get same old q)) alike) ∙ sym (changed.updates.0 q) ∙ at in
        let one : changed.list' ≡ found = cc first in
        let name : entry.session ≡ q = same_names entry.session q alike in
        let before : get same old q ≡ Some list = ap (get same old) (sym name) ∙ changed.found in
        let more : positions_from q 0 (journal ++ entry ∷ []) ≡ positions_from q 0 journal ++ cond (same q entry.session) ((0 + length journal) ∷ []) [] =
        positions-more q 0 journal entry in
        let mine : same q entry.session ≡ true = subst (λ s. same s entry.session ≡ true) name (subst (λ s. same entry.session s ≡ true) (sym name) alike) in
        ap (λ v. v.items) (sym one) ∙ changed.listed ∙ ap (λ ps. ps ++ length journal ∷ []) (is.each q list before)
        ∙ sym (more ∙ ap (λ b. positions_from q 0 journal ++ cond b ((0 + length journal) ∷ []) []) mine ∙ ap (λ n. positions_from q 0 journal ++ n ∷ []) next)
    by q found at false apart =
        let more : positions_from q 0 (journal ++ entry ∷ []) ≡ positions_from q 0 journal ++ cond (same q entry.session) ((0 + length journal) ∷ []) [] =
        positions-more q 0 journal entry in
        let other : same q entry.session ≡ false = sym (nat_list_eq_equiv.symm entry.session q) ∙ apart in
        is.each q found (sym (ap (λ b. cond b (Some changed.list') (get same old q)) apart) ∙ sym (changed.updates.0 q) ∙ at)
        ∙ sym (more ∙ ap (λ b. positions_from q 0 journal ++ cond b ((0 + length journal) ∷ []) []) other ∙ append-nil (positions_from q 0 journal))

-- lists that stay leave the names as they are, and the book as it is stored
pub kept-names : (old new : Positions) (session : List ℕ) → Keeps old session new → keys new ≡ keys old
kept-names old new session (inl is) = ap keys is
kept-names old new session (inr changed) = changed.1.names

pub kept : (old new : Positions) (journal : List Entry) (session : List ℕ) → IsStored old journal → Keeps old session new → IsStored new journal
kept old new journal session is (inl no_change) = subst (λ m. IsStored m journal) (sym no_change) is
kept old new journal session is (inr changed) = relisted old new journal session changed.0 is changed.1

abbrev pub shown : Positions → List Entry → Book
shown positions journal = record { names = keys positions; journal = journal }

-- a list that is found says how many transactions its session has
pub matched : (positions : Positions) (journal : List Entry) (session : List ℕ) (list : Vec ℕ) (held : ℕ) → IsStored positions journal
    → get same positions session ≡ Some list → length list.items ≡ held → Matches (shown positions journal) session held
matched positions journal session list held is found long =
    (open-found positions session ∙ ap is_some found, sym (ap length (is.each session list found) ∙ length-positions session 0 journal) ∙ long)

unmatched : (positions : Positions) (journal : List Entry) (session : List ℕ) (held : ℕ) → IsStored positions journal
    → ((list : Vec ℕ) → get same positions session ≡ Some list → length list.items ≢ held) → Matches (shown positions journal) session held → ⊥
unmatched positions journal session held is other matches = by (get same positions session) refl
  where
    by : (o : Option (Vec ℕ)) → get same positions session ≡ o → ⊥
    by None none = true≢false (sym matches.0 ∙ open-found positions session ∙ ap is_some none)
    by (Some list) found =
        other list found (ap length (is.each session list found) ∙ length-positions session 0 journal ∙ matches.1)

-- a refused record leaves the lists
pub refusal-keeps : (old new : Positions) (session : List ℕ) (held position : ℕ) (fault : RecordFault)
    → AddsPosition {U = Unit {0}} old session held position (Err fault) new → Keeps old session new
refusal-keeps old new session held position (refused.Full most) is = absurd is
refusal-keeps old new session held position (refused.Torn torn) is = is.2
refusal-keeps old new session held position refused.NoMemory is = is

-- a refusal gives the right reason
pub refusal-is : (old new : Positions) (journal : List Entry) (session : List ℕ) (held position : ℕ) (txn : Transaction) (fault : RecordFault)
    → IsStored old journal → length journal < MAX_TRANSACTIONS
    → AddsPosition {U = Unit {0}} old session held position (Err fault) new
    → Records {U = Unit {0}} (shown old journal) session held txn (Err (fault, txn)) (shown new journal)
refusal-is old new journal session held position txn (refused.Full most) stored room is = absurd is
refusal-is old new journal session held position txn (refused.Torn torn) stored room is = (
  room,
  is.0,
  unmatched old journal session held stored is.1,
  refl,
  ap (λ names. record { names = names; journal = journal }) (kept-names old new session is.2),
)
refusal-is old new journal session held position txn refused.NoMemory stored room is =
    (refl, ap (λ names. record { names = names; journal = journal }) (kept-names old new session is))
