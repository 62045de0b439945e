-- What is noted of values, and who writes keys, by the numbers of the keys.
use Rattle.std.proofs.Common.{ℕ, ◌≡◌, ◌≤◌, ◌==◌, ◌&&◌, ◌⊎◌, inl, inr, Bool, true, false, List, [], get_or, length, refl, sym, ap, subst, ◌∙◌}
use Rattle.std.specs.Prelude.{Option, Some, None}
use Rattle.std.specs.BTreeMap.{BTreeMap, IsUnchanged, Updates, get, is_at}
use Rattle.std.specs.Ordering.{is_eq, nat_cmp, ordering_then}
use Rattle.std.specs.declared.cmp.Ordering.{Ordering}
use Rattle.std.specs.declared.cmp.Ordering.TheVariants.{Less, Equal, Greater}
use Rattle.std.specs.Map.{lookup}
use Rattle.std.proofs.lemmas.Bool.{and_parts, cases_Bool, eqb-true, false≢true}
use Rattle.tcc_txn.specs.Symbols.{IsNumber, with_symbol}
use Rattle.tcc_txn.proofs.SortedParts.{same_name, same_names}
use Rattle.tcc_reads.proofs.Ties.{numbers_tie}
use Rattle.tcc_graph.proofs.NameLemmas.{bytes_eq-same}
use Rattle.tcc_watch.specs.declared.at.At.{At}
use Rattle.tcc_watch.specs.declared.linking.SessionWriters.{SessionWriters}
use Rattle.tcc_watch.specs.private.Numbered.{number_in}
use Rattle.tcc_watch.specs.private.Values.{AreValuesOf, Notes, spot_cmp}
use Rattle.tcc_watch.specs.private.Writers.{AreWritersOf, HasNumber, HasNumberAt, NotesWrite}
use Rattle.tcc_watch.proofs.Numbers.{apart_more, number_before, number_now, others_stay, past_more}

-- ---- values

then_tied : (a b : Ordering) → is_eq (ordering_then a b) ≡ (is_eq a && is_eq b)
then_tied Less b = refl
then_tied Equal b = refl
then_tied Greater b = refl

-- two spots that differ in number or value don't tie
spots_apart : (n v k u : ℕ) → (k ≡ n → u ≡ v → ⊥) → is_at (spot_cmp (n, v)) (k, u) ≡ false
spots_apart n v k u differ = go (cases_Bool (is_at (spot_cmp (n, v)) (k, u)))
  where
    tie : is_at (spot_cmp (n, v)) (k, u) ≡ ((n == k) && (v == u))
    tie = then_tied (nat_cmp n k) (nat_cmp v u) ∙ (λ i. numbers_tie n k i && numbers_tie v u i)

    go : (is_at (spot_cmp (n, v)) (k, u) ≡ true) ⊎ (is_at (spot_cmp (n, v)) (k, u) ≡ false) → is_at (spot_cmp (n, v)) (k, u) ≡ false
    go (inr apart) = apart
    go (inl tied) =
        let parts = and_parts (n == k) (v == u) (sym tie ∙ tied) in
        absurd (differ (sym (eqb-true n k parts.0)) (sym (eqb-true v u parts.1)))

module _ (keys : List (List ℕ)) (old new : BTreeMap (ℕ × ℕ) (Option ℕ)) (x : List ℕ) (v n : ℕ) (shown : Option ℕ) (right : AreValuesOf keys old.entries)
    (number : IsNumber (with_symbol x keys) x n) (updates : Updates spot_cmp old new (n, v) (Some shown)) where
  elsewhere : (u k : ℕ) → (k ≡ n → ⊥) → get spot_cmp new (k, u) ≡ get spot_cmp old (k, u)
  elsewhere u k apart = updates.2 (k, u) (spots_apart n v k u (λ same value. apart same))

  pub noted_value : Notes (record { keys = keys; entries = old.entries }) (record { keys = with_symbol x keys; entries = new.entries }) x v shown
  noted_value = record {
    here = ap (λ k. get spot_cmp new (k, v)) (number_now x keys n right.0 number) ∙ updates.1;
    others = λ y u differ. others y u differ (same_name y x) refl;
  }
    where
      here_other : (u : ℕ) → (u ≡ v → ⊥) → get spot_cmp new (number_in x (with_symbol x keys), u) ≡ get spot_cmp old (number_in x keys, u)
      here_other u differ =
          ap (λ k. get spot_cmp new (k, u)) (number_now x keys n right.0 number)
          ∙ updates.2 (n, u) (spots_apart n v n u (λ same value. differ value))
          ∙ ap (λ k. get spot_cmp old (k, u)) (sym (number_before x keys n right.0 number))

      others : (y : List ℕ) (u : ℕ) → (y ≡ x → u ≡ v → ⊥) → (b : Bool) → same_name y x ≡ b
          → get spot_cmp new (number_in y (with_symbol x keys), u) ≡ get spot_cmp old (number_in y keys, u)
      others y u differ true e =
          let key = same_names y x e in
          subst (λ (z : List ℕ). get spot_cmp new (number_in z (with_symbol x keys), u) ≡ get spot_cmp old (number_in z keys, u)) (sym key) (here_other u (differ key))
      others y u differ false e =
          others_stay x keys n right.0 number (λ k. get spot_cmp old (k, u)) (λ k. get spot_cmp new (k, u)) None (λ k. right.1 k u) (elsewhere u) y
          (λ key. false≢true (sym e ∙ bytes_eq-same y x key))

  pub values_more : AreValuesOf (with_symbol x keys) new.entries
  values_more = (
    apart_more x keys right.0,
    λ k u high. past_more x keys n right.0 number (λ j. get spot_cmp old (j, u)) (λ j. get spot_cmp new (j, u)) None (λ j. right.1 j u) (elsewhere u) k high,
  )

-- where memory was refused the keys may be more
pub values_kept : (keys : List (List ℕ)) (old new : BTreeMap (ℕ × ℕ) (Option ℕ)) (x : List ℕ) (n : ℕ) → AreValuesOf keys old.entries → IsNumber (with_symbol x keys) x n
    → IsUnchanged old new → AreValuesOf (with_symbol x keys) new.entries
values_kept keys old new x n right number same = (
  apart_more x keys right.0,
  λ k u high. past_more x keys n right.0 number (λ j. get spot_cmp old (j, u)) (λ j. get spot_cmp new (j, u)) None (λ j. right.1 j u)
      (λ j apart. ap (λ es. lookup (is_at (spot_cmp (j, u))) es) same) k high,
)

-- ---- writers

module _ (keys : List (List ℕ)) (old new : List (List SessionWriters)) (x : List ℕ) (n : ℕ) (right : AreWritersOf keys old) (number : IsNumber (with_symbol x keys) x n)
    (others : (k : ℕ) → (k ≡ n → ⊥) → get_or new k [] ≡ get_or old k []) where
  pub noted_key : (stand : At) (t : ℕ) → HasNumber (get_or old n []) (get_or new n []) stand t
      → NotesWrite (record { keys = keys; writers = old }) (record { keys = with_symbol x keys; writers = new }) stand t x
  noted_key stand t more = record {
    here = subst (λ (k : ℕ). HasNumber (get_or old k []) (get_or new (number_in x (with_symbol x keys)) []) stand t) (sym (number_before x keys n right.0 number))
        (subst (λ (k : ℕ). HasNumber (get_or old n []) (get_or new k []) stand t) (sym (number_now x keys n right.0 number)) more);
    others = λ y differ. others_stay x keys n right.0 number (λ k. get_or old k []) (λ k. get_or new k []) [] right.1 others y differ;
  }

  pub writers_more : AreWritersOf (with_symbol x keys) new
  writers_more = (
    apart_more x keys right.0,
    past_more x keys n right.0 number (λ k. get_or old k []) (λ k. get_or new k []) [] right.1 others,
  )
