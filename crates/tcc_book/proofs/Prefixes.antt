-- Prefixes of lists, and the sessions of a snapshot whose lists are continued in another.
use Rattle.std.proofs.Common.{◌≡◌, ℕ, ◌+◌, ◌<◌, ◌≤◌, ◌⊎◌, inl, inr, List, [], ◌++◌, length, take}
use Rattle.std.proofs.Common.{drop, Option, None, Some, sym, ap, subst, refl, ◌∙◌, arith}
use Rattle.std.proofs.Common.{length-append}
use Rattle.std.specs.Prelude.{slice_get, unwrap_or}
use Rattle.std.specs.FinMap.{entries, get}
use Rattle.std.specs.List.{Contains}
use Rattle.std.specs.declared.cmp.Ordering.TheVariants.{Less}
use Rattle.std.proofs.Math.Seq.{take-append_seam}
use Rattle.std.proofs.lemmas.Bool.{cases_lt}
use Rattle.std.proofs.lemmas.List.{take-append-drop}
use Rattle.std.proofs.lemmas.Option.{get_or_from_slice_get, slice_get-get_or}
use Rattle.tcc_txn.specs.Nested.{IsFirstCut, IsNested, IsPrefix, list_of}
use Rattle.tcc_txn.specs.Snapshots.{Sessions}
use Rattle.tcc_txn.specs.Transactions.{Transaction}
use Rattle.tcc_txn.proofs.SessionEntries.{Named, entry_of_name, lesser_first, list_of_entry}
use Rattle.tcc_txn.proofs.SortedParts.{name_cmp}

module _ {X : Type 0} (front all : List X) where
  pub begun : front ≡ take (length front) all → IsPrefix front all
  begun same = (drop (length front) all, sym (take-append-drop (length front) all) ∙ ap (λ (z : List X). z ++ drop (length front) all) (sym same))

  pub begins : IsPrefix front all → front ≡ take (length front) all
  begins (rest, is) = sym (ap (take (length front)) is ∙ take-append_seam front rest)

  pub too_long : length all < length front → IsPrefix front all → ⊥
  too_long longer (rest, is) = absurd (omega (arith, longer, ap length is, length-append front rest))

module _ (small large : Sessions) where
  -- the list of the session is continued
  abbrev pub GoesOn : List ℕ → Type 0
  GoesOn name = IsPrefix (list_of small name) (list_of large name)

  -- the lists of the first sessions are continued
  abbrev pub GoOn : ℕ → Type 0
  GoOn n = (k : ℕ) (e : Named) → k < n → slice_get (entries small) k ≡ Some e → GoesOn e.0

  stands : (i : ℕ) (e : Named) → i < length (entries small) → slice_get (entries small) i ≡ Some e → Contains (entries small) e
  stands i e within at = (i, within, get_or_from_slice_get (entries small) i e e at)

  -- the list at an index is that of its session, and what a search finds there is the list in the other snapshot
  module _ (i : ℕ) (e : Named) (within : i < length (entries small)) (at : slice_get (entries small) i ≡ Some e) (found : List Transaction)
      (found_is : found ≡ list_of large e.0) where
    list_is : list_of small e.0 ≡ e.1
    list_is = list_of_entry small e (stands i e within at)

    goes_on : IsPrefix e.1 found → GoesOn e.0
    goes_on (rest, is) = (rest, sym found_is ∙ is ∙ ap (λ (z : List Transaction). z ++ rest) (sym list_is))

    went_on : GoesOn e.0 → IsPrefix e.1 found
    went_on (rest, is) = (rest, found_is ∙ is ∙ ap (λ (z : List Transaction). z ++ rest) list_is)

    pub one_more : GoOn i → IsPrefix e.1 found → GoOn (i + 1)
    one_more before here k f less at' = go (cases_lt k i)
      where
        go : (k < i) ⊎ (i ≤ k) → GoesOn f.0
        go (inl low) = before k f low at'
        go (inr high) =
            let same : i ≡ k = omega arith in
            let one : Some e ≡ Some f = sym at ∙ ap (slice_get (entries small)) same ∙ at' in
            let is : e ≡ f = cc in
            subst (λ (z : Named). GoesOn z.0) is (goes_on here)

    pub first_cut : GoOn i → (IsPrefix e.1 found → ⊥) → IsFirstCut small large e.0
    first_cut before cut = record { cut = λ p. cut (went_on p); first = λ other less. by other less (get small other) refl }
      where
        by : (other : List ℕ) → name_cmp other e.0 ≡ Less → (o : Option (List Transaction)) → get small other ≡ o → GoesOn other
        by other less None none = (list_of large other, ap (λ (o : Option (List Transaction)). unwrap_or o [] ++ list_of large other) (sym none))
        by other less (Some v) some =
            let w = entry_of_name small other v some in
            let lower : w.1.0 < i =
            lesser_first small w.1.0 i w.0 w.1.1 within
            ((λ t. name_cmp ((ap (λ (z : Named). z.0) w.1.2 ∙ w.2) t) ((ap (λ (z : Named). z.0) (get_or_from_slice_get (entries small) i e w.0 at)) t))
            ∙ less) in
            subst GoesOn w.2 (before w.1.0 w.0 lower (slice_get-get_or (entries small) w.1.0 w.0 w.1.1 ∙ ap Some w.1.2))

  pub all_go_on : (n : ℕ) → length (entries small) ≤ n → GoOn n → IsNested small large
  all_go_on n past before name = by (get small name) refl
    where
      by : (o : Option (List Transaction)) → get small name ≡ o → GoesOn name
      by None none = (list_of large name, ap (λ (o : Option (List Transaction)). unwrap_or o [] ++ list_of large name) (sym none))
      by (Some v) some =
          let w = entry_of_name small name v some in
          subst GoesOn w.2 (before w.1.0 w.0 (omega (arith, w.1.1, past)) (slice_get-get_or (entries small) w.1.0 w.0 w.1.1 ∙ ap Some w.1.2))
