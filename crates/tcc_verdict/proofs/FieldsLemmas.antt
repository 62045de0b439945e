-- The first fields of a record, one by one.
use Rattle.std.proofs.Common.{◌≡◌, ◌≤◌, ◌+◌, ◌++◌, ◌∙◌, ℕ, zero, suc, true, List, [], ◌∷◌, None, Some, Bor, refl, map, take, ap, arith, sym}
use Rattle.csv.specs.Records.{field_at}
use Rattle.tcc_txn.specs.declared.limits.Limits.{Limits}
use Rattle.tcc_rows.specs.Lines.{Record}
use Rattle.tcc_rows.specs.Reached.{is_of_record}
use Rattle.tcc_rows.specs.declared.fault.RowFault.{RowFault}
use Rattle.tcc_print.specs.RowNotes.{row_note}
use Rattle.tcc_print.proofs.RowNotes.{note-of-first}
use Rattle.tcc_verdict.specs.Stopping.{stop_note}

none-some : {A : Type 0} (x : A) → Some x ≡ None → ⊥
none-some x e = cc e

some-none : {A : Type 0} (x : A) → None ≡ Some x → ⊥
some-none x e = cc e

same : {A : Type 0} (x y : A) → Some x ≡ Some y → y ≡ x
same x y e = cc e

-- one more of them
pub one_more : (fields : List (List ℕ)) (k : ℕ) (field : List ℕ) → Some field ≡ field_at fields k → take (k + 1) fields ≡ take k fields ++ field ∷ []
unfolding field_at
one_more [] k field is = absurd (none-some field is)
one_more (f ∷ fs) zero field is = ap (λ g. g ∷ []) (same field f is)
one_more (f ∷ fs) (suc k) field is =
    let next : suc k + 1 ≡ suc (k + 1) = omega arith in
    ap (λ n. take n (f ∷ fs)) next ∙ ap (λ gs. f ∷ gs) (one_more fs k field is)

-- where none is left, they are the first of any number that is no less
pub no_more : (fields : List (List ℕ)) (k n : ℕ) → None ≡ field_at fields k → k ≤ n → take k fields ≡ take n fields
unfolding field_at
no_more [] zero zero none most = refl
no_more [] zero (suc n) none most = refl
no_more [] (suc k) zero none most = refl
no_more [] (suc k) (suc n) none most = refl
no_more (f ∷ fs) zero n none most = absurd (some-none f none)
no_more (f ∷ fs) (suc k) zero none most = absurd (let past = most in omega (arith, past))
no_more (f ∷ fs) (suc k) (suc n) none most = ap (λ gs. f ∷ gs) (no_more fs k n none (let less = most in omega (arith, less)))

-- the note of a record needs no fields after those that are looked at
pub noted_of_first : (limits given : Limits) (fault : RowFault) (last : Record) (slice fields : List (Bor (List ℕ))) → given ≡ limits
    → is_of_record fault.kind ≡ true → slice ≡ fields → map (λ field. field.now) fields ≡ take 64 last
    → row_note given fault (map (λ field. field.now) slice) ≡ stop_note limits fault last
noted_of_first limits given fault last slice fields within is same first =
    (λ i. row_note (within i) fault (map (λ field. field.now) (same i))) ∙ ap (row_note limits fault) first
    ∙ note-of-first limits fault last ∙ sym whole
  where
    whole : stop_note limits fault last ≡ row_note limits fault last
    whole = rw is refl
