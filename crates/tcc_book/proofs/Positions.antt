-- Lemmas on books.
-- - length-positions, few-positions: how many positions a session has
-- - positions-more, list-more: one more record
-- - no-positions: a session without records
-- - open-found: the names of a map of positions
-- - is-book: what is stored is a book
use Rattle.std.proofs.Common.{◌≡◌, ℕ, ◌+◌, ◌≤◌, Bool, true, false, cond, List, [], ◌∷◌, ◌++◌, length, None, refl, sym, ap, ◌∙◌, arith, is_some, true≢false}
use Rattle.std.specs.List.{list_any, list_all}
use Rattle.std.proofs.lemmas.Map.Made.{is_some-lookup}
use Rattle.std.proofs.lemmas.List.{length-map}
use Rattle.indexmap.specs.IndexMap.{get, keys, index_map_len}
use Rattle.tcc_txn.specs.Bytes.{same}
use Rattle.tcc_txn.proofs.SortedParts.{same_names}
use Rattle.tcc_book.specs.Books.{IsBook, list_of}
use Rattle.tcc_book.specs.private.BookStorage.{IsStored, Positions, positions_from}
use Rattle.tcc_book.specs.declared.entry.Entry.{Entry}

-- a session has as many positions as transactions
pub length-positions : (session : List ℕ) (n : ℕ) (es : List Entry) → length (positions_from session n es) ≡ length (list_of session es)
length-positions session n [] = refl
length-positions session n (e ∷ es) = by (length-positions session (n + 1) es) (same session e.session) refl
  where
    by : length (positions_from session (n + 1) es) ≡ length (list_of session es) → (b : Bool) → same session e.session ≡ b
        → length (positions_from session n (e ∷ es)) ≡ length (list_of session (e ∷ es))
    by rest true is = rw is (omega (arith, rest))
    by rest false is = rw is rest

-- a session has at most as many positions as there are records
pub few-positions : (session : List ℕ) (n : ℕ) (es : List Entry) → length (positions_from session n es) ≤ length es
few-positions session n [] = omega arith
few-positions session n (e ∷ es) = by (few-positions session (n + 1) es) (same session e.session) refl
  where
    by : length (positions_from session (n + 1) es) ≤ length es → (b : Bool) → same session e.session ≡ b
        → length (positions_from session n (e ∷ es)) ≤ length (e ∷ es)
    by rest true is = rw is (omega (arith, rest))
    by rest false is = rw is (omega (arith, rest))

-- the positions after one more record
pub positions-more : (session : List ℕ) (n : ℕ) (es : List Entry) (e : Entry)
    → positions_from session n (es ++ e ∷ []) ≡ positions_from session n es ++ cond (same session e.session) ((n + length es) ∷ []) []
positions-more session n [] e = by (same session e.session) refl
  where
    zero : (k : ℕ) → k ≡ k + 0
    zero k = omega arith

    by : (b : Bool) → same session e.session ≡ b
        → positions_from session n (e ∷ []) ≡ cond (same session e.session) ((n + 0) ∷ []) []
    by true is = rw is (ap (λ k. k ∷ []) (zero n))
    by false is = rw is refl
positions-more session n (d ∷ es) e = by (positions-more session (n + 1) es e) (same session d.session) refl
  where
    next : n + 1 + length es ≡ n + length (d ∷ es)
    next = omega arith

    more : ℕ → List ℕ
    more k = cond (same session e.session) (k ∷ []) []

    by : positions_from session (n + 1) (es ++ e ∷ []) ≡ positions_from session (n + 1) es ++ more (n + 1 + length es) → (b : Bool) → same session d.session ≡ b
        → positions_from session n (d ∷ es ++ e ∷ []) ≡ positions_from session n (d ∷ es) ++ more (n + length (d ∷ es))
    by rest true is = rw is (ap (λ ps. n ∷ ps) (rest ∙ ap (λ k. positions_from session (n + 1) es ++ more k) next))
    by rest false is = rw is (rest ∙ ap (λ k. positions_from session (n + 1) es ++ more k) next)

-- the names of the map are those that it finds
pub open-found : (positions : Positions) (session : List ℕ) → list_any (same session) (keys positions) ≡ is_some (get same positions session)
open-found positions session = sym (is_some-lookup (same session) positions.entries)

-- a session that the map does not have has no records
pub no-positions : (session : List ℕ) (positions : Positions) (n : ℕ) (es : List Entry) → get same positions session ≡ None
    → list_all (λ e. is_some (get same positions e.session)) es ≡ true → positions_from session n es ≡ []
no-positions session positions n [] none known = refl
no-positions session positions n (e ∷ es) none known =
    by (no-positions session positions (n + 1) es none) (same session e.session) refl (is_some (get same positions e.session)) refl
  where
    by : (list_all (λ d. is_some (get same positions d.session)) es ≡ true → positions_from session (n + 1) es ≡ [])
        → (b : Bool) → same session e.session ≡ b → (f : Bool) → is_some (get same positions e.session) ≡ f → positions_from session n (e ∷ es) ≡ []
    by rest true is found at = absurd (true≢false (sym (list_all-head found at) ∙ at-none ∙ refl))
      where
        at-none : is_some (get same positions e.session) ≡ false
        at-none = ap is_some (ap (get same positions) (sym (same_names session e.session is)) ∙ none)

        list_all-head : (f : Bool) → is_some (get same positions e.session) ≡ f → is_some (get same positions e.session) ≡ true
        list_all-head true a = a
        list_all-head false a = absurd (true≢false (sym (rw a at known)))
    by rest false is true at = rw is (rest (rw at at known))
    by rest false is false at = absurd (true≢false (sym (rw at at known)))

-- the map has as many names as entries
pub length-keys : (positions : Positions) → length (keys positions) ≡ index_map_len positions
length-keys positions = length-map positions.entries (λ e. e.0)

-- a book that is stored so can be under a lock
pub is-book : (positions : Positions) (journal : List Entry) → IsStored positions journal → IsBook (record { names = keys positions; journal = journal })
is-book positions journal is = record {
  once = is.once;
  known = (λ i. list_all (λ (e : Entry). open-found positions e.session i) journal) ∙ is.known;
  few = omega (arith, length-keys positions, is.few);
  short = is.short;
}
