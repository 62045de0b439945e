-- Worked examples of the definitions, with values worked out by hand.
use Rattle.std.proofs.Common.{◌≡◌, ℕ, zero, suc, ◌≤◌, List, [], ◌∷◌, refl, sym, subst, ap, ◌∙◌, arith}
use Rattle.std.proofs.lemmas.List.Elements.{All-cons, All-nil, All-head}
use mathlib.Core.Option.{some, some-injective, some-ne-none}
use lib.ListN.{get_elem?}
use Rattle.tcc_bound.specs.declared.known.Known.{Known}
use Rattle.tcc_bound.specs.declared.known.View.{View}
use Rattle.tcc_bound.specs.declared.known.View.TheVariants.{Live, Spent}
use Rattle.tcc_bound.specs.Knowing.{IsAtMostAll, newcomer, with_sight, with_offer, without_offers, both_of}
use Rattle.tcc_bound.specs.private.Rule.{Agrees, IsKept}

abbrev known : ℕ → ℕ → List ℕ → Known
known floor sight offers = record { floor = floor; sight = sight; offers = offers }

-- the first offer, of 7, at a bound whose floor is 3
first_offer : with_sight (with_offer (newcomer 3) 7) 7 ≡ known 3 7 (7 ∷ [])
first_offer = refl

-- an offer of 9 after one of 7, where another seat offered 5
higher_offer : with_sight (with_offer (known 3 7 (7 ∷ [])) 9) 5 ≡ known 3 5 (7 ∷ 9 ∷ [])
higher_offer = refl

seat_split : without_offers (known 3 7 (7 ∷ [])) ≡ known 3 7 []
seat_split = refl

seats_joined : both_of (known 3 7 (7 ∷ [])) (known 3 5 (9 ∷ 5 ∷ [])) ≡ known 3 5 (7 ∷ 9 ∷ 5 ∷ [])
seats_joined = refl

five_is_at_most_all : IsAtMostAll 5 (known 3 6 (9 ∷ 5 ∷ []))
five_is_at_most_all =
    (omega arith, All-cons (λ (c : ℕ). 5 ≤ c) 9 (5 ∷ []) (omega arith) (All-cons (λ (c : ℕ). 5 ≤ c) 5 [] (omega arith) (All-nil (λ (c : ℕ). 5 ≤ c))))

-- 6 is above the offer of 5
six_is_not : IsAtMostAll 6 (known 3 6 (5 ∷ 9 ∷ [])) → ⊥
six_is_not below = let five : 6 ≤ 5 = All-head (λ (c : ℕ). 6 ≤ c) 5 (9 ∷ []) below.1 in omega arith

-- 7 is above the sight, which is 6
seven_is_not : IsAtMostAll 7 (known 3 6 []) → ⊥
seven_is_not below = let six : 7 ≤ 6 = below.0 in omega arith

-- the word is 5 and the floor 3: a seat that saw 7 and offered it, one that was joined into another, and one that offered 5
three_seats : (seat : ℕ) (view : View) → get_elem? (Live (known 3 7 (7 ∷ [])) ∷ Spent ∷ Live (known 3 5 (5 ∷ [])) ∷ []) seat ≡ some view → Agrees 5 3 view
three_seats zero view at =
    subst (Agrees 5 3) (some-injective _ _ at) ((omega arith, All-cons (λ (c : ℕ). 5 ≤ c) 7 [] (omega arith) (All-nil (λ (c : ℕ). 5 ≤ c))), refl)
three_seats (suc zero) view at = subst (Agrees 5 3) (some-injective _ _ at) tt
three_seats (suc (suc zero)) view at =
    subst (Agrees 5 3) (some-injective _ _ at) ((omega arith, All-cons (λ (c : ℕ). 5 ≤ c) 5 [] (omega arith) (All-nil (λ (c : ℕ). 5 ≤ c))), refl)
three_seats (suc (suc (suc seat))) view at = absurd (some-ne-none view (sym at))

three_seats_are_kept : IsKept (5 ∷ []) (Live (known 3 7 (7 ∷ [])) ∷ Spent ∷ Live (known 3 5 (5 ∷ [])) ∷ [])
three_seats_are_kept = record { word = 5; floor = 3; one_word = refl; above = omega arith; agree = three_seats }

-- a word above an offer is not kept
word_too_high : IsKept (6 ∷ []) (Live (known 3 7 (5 ∷ [])) ∷ []) → ⊥
word_too_high kept =
    let word : 6 ≡ kept.word = ap (λ (ws : List ℕ). Rattle.std.proofs.Common.slice_index ws 0) kept.one_word in
    let seat : Agrees kept.word kept.floor (Live (known 3 7 (5 ∷ []))) = kept.agree 0 (Live (known 3 7 (5 ∷ []))) refl in
    let offer : kept.word ≤ 5 = All-head (λ (c : ℕ). kept.word ≤ c) 5 [] seat.0.1 in
    omega arith

-- two floors are not kept
two_floors : (word : ℕ) → IsKept (word ∷ []) (Live (newcomer 3) ∷ Live (newcomer 4) ∷ []) → ⊥
two_floors word kept =
    let one : 3 ≡ kept.floor = (kept.agree 0 (Live (newcomer 3)) refl).1 in
    let other : 4 ≡ kept.floor = (kept.agree 1 (Live (newcomer 4)) refl).1 in
    omega arith
