-- A book after one more session.
use Rattle.std.proofs.Common.{◌≡◌, ℕ, ◌≤◌, ◌<◌, Bool, true, false, cond, List, [], ◌∷◌, ◌++◌}
use Rattle.std.proofs.Common.{length, None, Some, refl, sym, ap, ◌∙◌, subst, arith, is_some}
use Rattle.std.proofs.Common.{length-append}
use Rattle.std.proofs.lemmas.List.{map-append}
use Rattle.tcc_txn.proofs.SortedParts.{same_names}
use Rattle.std.specs.List.{list_all, IsDistinct}
use Rattle.std.specs.Global.{Vec}
use Rattle.std.specs.Map.{keys_of, lookup}
use Rattle.indexmap.specs.IndexMap.{get, keys, IsUnique, Updates, index_map_len, insert_entry}
use Rattle.indexmap.proofs.CallerLemmas.{insert_entry-new}
use Rattle.tcc_txn.specs.Bytes.{same}
use Rattle.tcc_txn.specs.declared.limits.TheConstants.{MAX_SESSIONS}
use Rattle.tcc_book.specs.private.BookStorage.{Positions, IsStored, positions_from}
use Rattle.tcc_book.specs.declared.entry.Entry.{Entry}
use Rattle.tcc_book.proofs.Positions.{no-positions}

-- what was found is still found
still-known : (old new : Positions) (session : List ℕ) (list : Vec ℕ) (es : List Entry)
    → ((q : List ℕ) → get same new q ≡ cond (same session q) (Some list) (get same old q))
    → list_all (λ e. is_some (get same old e.session)) es ≡ true → list_all (λ e. is_some (get same new e.session)) es ≡ true
still-known old new session list [] more known = refl
still-known old new session list (e ∷ es) more known =
    by (still-known old new session list es more) (is_some (get same old e.session)) refl (same session e.session) refl
  where
    by : (list_all (λ d. is_some (get same old d.session)) es ≡ true → list_all (λ d. is_some (get same new d.session)) es ≡ true)
        → (f : Bool) → is_some (get same old e.session) ≡ f → (b : Bool) → same session e.session ≡ b
        → list_all (λ d. is_some (get same new d.session)) (e ∷ es) ≡ true
    by rest true found true is = rw (more e.session, is) (rest (rw found at known))
    by rest true found false is = rw (more e.session, is, found) (rest (rw found at known))
    by rest false found b is = absurd (cc (rw found at known))

-- one more session, with no records
pub opened : (old new : Positions) (journal : List Entry) (session : List ℕ) (list : Vec ℕ) → IsStored old journal
    → get same old session ≡ None → index_map_len old < MAX_SESSIONS → list.items ≡ []
    → Updates same old new session (Some list) → new.entries ≡ insert_entry same old.entries session list → IsUnique same new
    → IsStored new journal
opened old new journal session list is none room empty updates entries unique = record {
  each = each;
  known = still-known old new session list journal updates.0 is.known;
  once = unique;
  few = few;
  short = is.short;
}
  where
    each : (q : List ℕ) (found : Vec ℕ) → get same new q ≡ Some found → found.items ≡ positions_from q 0 journal
    each q found at = by (same session q) refl
      where
        by : (b : Bool) → same session q ≡ b → found.items ≡ positions_from q 0 journal
        by true alike =
            let first : Some list ≡ Some found = sym (ap (λ b. cond b (Some list) (get same old q)) alike) ∙ sym (updates.0 q) ∙ at in
            let absent : get same old q ≡ None = ap (get same old) (sym (same_names session q alike)) ∙ none in
            let same_list : list ≡ found = cc first in
            ap (λ v. v.items) (sym same_list) ∙ empty ∙ sym (no-positions q old 0 journal absent is.known)
        by false apart =
            is.each q found (sym (ap (λ b. cond b (Some list) (get same old q)) apart) ∙ sym (updates.0 q) ∙ at)

    few : index_map_len new ≤ MAX_SESSIONS
    few = let longer = ap length (entries ∙ insert_entry-new same old session list none) in
        omega (arith, longer, length-append old.entries ((session, list) ∷ []), room)

-- the names after one more was opened
pub opened-names : (old new : Positions) (session : List ℕ) (list : Vec ℕ) → get same old session ≡ None
    → new.entries ≡ insert_entry same old.entries session list → keys new ≡ keys old ++ session ∷ []
opened-names old new session list none entries =
    ap keys_of (entries ∙ insert_entry-new same old session list none) ∙ map-append (λ e. e.0) old.entries ((session, list) ∷ [])

-- if no entry changed, the journal is stored as before
pub unchanged : (old new : Positions) (journal : List Entry) → new.entries ≡ old.entries → IsStored old journal → IsStored new journal
unchanged old new journal kept is = record {
  each = λ q list at. is.each q list (ap (lookup (same q)) (sym kept) ∙ at);
  known = ap (λ es. list_all (λ e. is_some (lookup (same e.session) es)) journal) kept ∙ is.known;
  once = subst (λ es. IsDistinct same (keys_of es)) (sym kept) is.once;
  few = omega (arith, ap length kept, is.few);
  short = is.short;
}
