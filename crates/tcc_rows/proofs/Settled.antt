-- SettledOutcomes items, piece by piece.
use Rattle.std.proofs.Common.{◌≡◌, ◌+◌, ◌⊎◌, inl, inr, Bool, true, false, List, [], ◌∷◌, ◌++◌, length, map, refl, sym, ap, ◌∙◌, arith}
use Rattle.std.proofs.Common.{append_assoc, append-nil, length-append}
use Rattle.std.proofs.lemmas.List.Elements.{filter-append}
use Rattle.tcc_txn.specs.Finished.{with_transaction}
use Rattle.tcc_txn.specs.Snapshots.{Sessions}
use Rattle.tcc_rows.specs.Recordings.{IsAtCheckpoint, has_seal, is_seal, seals_in}
use Rattle.tcc_rows.specs.Settling.{Pending, seen_among, settled_after, shown, told, unseen_among, with_shown}
use Rattle.tcc_rows.specs.declared.rows.Item.{Item}
use Rattle.tcc_rows.specs.declared.rows.Item.TheVariants as item

-- what is finished and what is pending after some items
abbrev pub held_after : Sessions → Pending → List Item → Sessions × Pending
held_after s pending [] = (s, pending)
held_after s pending (item.Finished session txn ∷ rest) = held_after (with_transaction s session txn) pending rest
held_after s pending (item.Unknown session txn ∷ rest) = held_after s (pending ++ (session, txn) ∷ []) rest
held_after s pending (item.Seal ∷ rest) = held_after (with_shown s pending) (unseen_among s pending) rest
held_after s pending (item.End ∷ rest) = held_after s pending rest

pub settled-append : (ends : Bool) (xs ys : List Item) (s : Sessions) (pending : Pending)
    → settled_after ends s pending (xs ++ ys)
    ≡ settled_after false s pending xs ++ settled_after ends (held_after s pending xs).0 (held_after s pending xs).1 ys
settled-append ends [] ys s pending = refl
settled-append ends (item.Finished session txn ∷ xs) ys s pending =
    ap (λ items. item.Finished session txn ∷ items) (settled-append ends xs ys (with_transaction s session txn) pending)
settled-append ends (item.Unknown session txn ∷ xs) ys s pending = settled-append ends xs ys s (pending ++ (session, txn) ∷ [])
settled-append ends (item.Seal ∷ xs) ys s pending =
    ap (λ items. shown s pending ++ item.Seal ∷ items) (settled-append ends xs ys (with_shown s pending) (unseen_among s pending))
    ∙ sym (append_assoc (shown s pending) (item.Seal ∷ settled_after false (with_shown s pending) (unseen_among s pending) xs) _)
settled-append ends (item.End ∷ xs) ys s pending = ap (λ items. item.End ∷ items) (settled-append ends xs ys s pending)

-- ---- seals

pub seals-told : (xs : Pending) (ys : List Item) → seals_in (map told xs ++ ys) ≡ seals_in ys
seals-told [] ys = refl
seals-told (x ∷ xs) ys = seals-told xs ys

pub told-unsealed : (xs : Pending) → has_seal (map told xs) ≡ false
told-unsealed [] = refl
told-unsealed (x ∷ xs) = told-unsealed xs

pub seals-settled : (ends : Bool) (items : List Item) (s : Sessions) (pending : Pending) → seals_in (settled_after ends s pending items) ≡ seals_in items
seals-settled true [] s pending = ap seals_in (sym (append-nil (shown s pending))) ∙ seals-told (seen_among s pending) []
seals-settled false [] s pending = refl
seals-settled ends (item.Finished session txn ∷ rest) s pending = seals-settled ends rest (with_transaction s session txn) pending
seals-settled ends (item.Unknown session txn ∷ rest) s pending = seals-settled ends rest s (pending ++ (session, txn) ∷ [])
seals-settled ends (item.Seal ∷ rest) s pending =
    seals-told (seen_among s pending) (item.Seal ∷ settled_after ends (with_shown s pending) (unseen_among s pending) rest)
    ∙ ap (λ items. item.Seal ∷ items) (seals-settled ends rest (with_shown s pending) (unseen_among s pending))
seals-settled ends (item.End ∷ rest) s pending = seals-settled ends rest s pending

-- items have no seal if there is none among their seals
pub none-sealed : (items : List Item) → length (seals_in items) ≡ 0 → has_seal items ≡ false
none-sealed [] e = refl
none-sealed (item.Finished session txn ∷ items) e = none-sealed items e
none-sealed (item.Unknown session txn ∷ items) e = none-sealed items e
none-sealed (item.Seal ∷ items) e = absurd (omega (arith, e))
none-sealed (item.End ∷ items) e = none-sealed items e

pub unsealed-none : (items : List Item) → has_seal items ≡ false → seals_in items ≡ []
unsealed-none [] e = refl
unsealed-none (item.Finished session txn ∷ items) e = unsealed-none items e
unsealed-none (item.Unknown session txn ∷ items) e = unsealed-none items e
unsealed-none (item.Seal ∷ items) e = cc e
unsealed-none (item.End ∷ items) e = unsealed-none items e

pub seals-append : (xs ys : List Item) → seals_in (xs ++ ys) ≡ seals_in xs ++ seals_in ys
seals-append xs ys = filter-append is_seal xs ys

-- if two lists are prefixes of one list, one is a prefix of the other
pub begin-both : {X : Type 0} (xs ys us vs : List X) → xs ++ us ≡ ys ++ vs
    → ((more : List X) × (ys ≡ xs ++ more)) ⊎ ((x : X) × (more : List X) × (xs ≡ ys ++ x ∷ more))
begin-both [] ys us vs e = inl (ys, refl)
begin-both (x ∷ xs) [] us vs e = inr (x, xs, refl)
begin-both {X} (x ∷ xs) (y ∷ ys) us vs e =
    let here : x ≡ y = cc e in
    let there : xs ++ us ≡ ys ++ vs = cc e in
    by here (begin-both xs ys us vs there)
  where
    by : x ≡ y → ((more : List X) × (ys ≡ xs ++ more)) ⊎ ((z : X) × (more : List X) × (xs ≡ ys ++ z ∷ more))
        → ((more : List X) × (y ∷ ys ≡ (x ∷ xs) ++ more)) ⊎ ((z : X) × (more : List X) × (x ∷ xs ≡ (y ∷ ys) ++ z ∷ more))
    by here (inl (more, is)) = inl (more, λ i. sym here i ∷ is i)
    by here (inr (z, more, is)) = inr (z, more, λ i. here i ∷ is i)

-- if items have as many seals as those that were taken at a checkpoint, they are these and then some without a seal
pub as-taken : (taken before more rest : List Item) → IsAtCheckpoint taken → taken ++ more ≡ before ++ rest
    → length (seals_in taken) ≡ length (seals_in before) → (passed : List Item) × (has_seal passed ≡ false) × (before ≡ taken ++ passed)
as-taken taken before more rest checkpoint both many = by (begin-both taken before more rest both)
  where
    late : (x : Item) (left : List Item) → taken ≡ before ++ x ∷ left → IsAtCheckpoint taken → ⊥
    late x left is (inl none) = absurd (omega (arith, ap length (sym is ∙ none), length-append before (x ∷ left)))
    late x left is (inr (front, sealed)) = last (begin-both before front (x ∷ left) (item.Seal ∷ []) (sym is ∙ sealed))
      where
        long : length (seals_in taken) ≡ length (seals_in front) + 1
        long = omega (arith, ap (λ items. length (seals_in items)) sealed, ap length (seals-append front (item.Seal ∷ [])), length-append (seals_in front) (item.Seal ∷ []))

        last : ((d : List Item) × (front ≡ before ++ d)) ⊎ ((z : Item) × (d : List Item) × (before ≡ front ++ z ∷ d)) → ⊥
        last (inl (d, e)) =
            absurd (omega (arith, long, many, ap (λ items. length (seals_in items)) e, ap length (seals-append before d), length-append (seals_in before) (seals_in d)))
        last (inr (z, d, e)) =
            absurd (omega (arith, ap length (sym is ∙ sealed), length-append before (x ∷ left), length-append front (item.Seal ∷ []), ap length e, length-append front (z ∷ d)))

    by : ((d : List Item) × (before ≡ taken ++ d)) ⊎ ((x : Item) × (d : List Item) × (taken ≡ before ++ x ∷ d))
        → (passed : List Item) × (has_seal passed ≡ false) × (before ≡ taken ++ passed)
    by (inl (d, e)) =
        let none : length (seals_in d) ≡ 0
        = omega (arith, many, ap (λ items. length (seals_in items)) e, ap length (seals-append taken d), length-append (seals_in taken) (seals_in d)) in
        (d, none-sealed d none, e)
    by (inr (x, d, e)) = absurd (late x d e checkpoint)
