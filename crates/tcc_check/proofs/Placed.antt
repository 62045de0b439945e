-- The positions of an order, as far as they are seen.
use Rattle.std.proofs.Common.{◌≡◌, ◌≢◌, ◌<◌, ◌≤◌, ◌+◌, ℕ, zero, suc, true, false, eqb, ◌⊎◌, inl}
use Rattle.std.proofs.Common.{inr, List, [], ◌∷◌, length, get_or, set, replicate, arith, sym, ap}
use Rattle.std.proofs.Common.{◌∙◌}
use Rattle.std.specs.List.{Contains, list_any}
use Rattle.std.proofs.lemmas.Bool.{cases_eq, false≢true, or_cases, or_parts, eqb-true, eq-eqb, both_ways}
use Rattle.std.proofs.lemmas.List.{get_or_default, get_or-set_same, get_or-set_other, length-set, get_or-replicate, length-replicate}
use Rattle.tcc_graph.specs.Orders.{IsNumbering}
use Rattle.tcc_check.specs.private.Positions.{ArePositions}

-- the position of a number that was not seen
abbrev pub unplaced : ℕ
unplaced = 4294967295

-- the first i numbers have their positions, and no other has one
pub record ArePositionsTo (i : ℕ) (order : List ℕ) (positions : List ℕ) : Type 0 where
  pub long : length positions ≡ length order
  pub below : (k : ℕ) → k < i → get_or order k 0 < length order
  pub seen : (k : ℕ) → k < i → get_or positions (get_or order k 0) 0 ≡ k
  pub from : (a : ℕ) → a < length order → (get_or positions a 0 ≡ unplaced) ⊎ ((get_or positions a 0 < i) × (get_or order (get_or positions a 0) 0 ≡ a))

pub none_placed : (order : List ℕ) (n : ℕ) → n ≡ length order → ArePositionsTo 0 order (replicate n unplaced)
none_placed order n is = record {
  long = length-replicate n unplaced ∙ is;
  below = λ k l. absurd (omega arith);
  seen = λ k l. absurd (omega arith);
  from = λ a l. inl (get_or-replicate n a unplaced 0 (omega arith));
}

pub one_placed : (i : ℕ) (order positions : List ℕ) (t : ℕ) → i < length order → length order < 4294967295 → get_or order i 0 ≡ t → t < length order
    → get_or positions t 0 ≡ unplaced → ArePositionsTo i order positions → ArePositionsTo (i + 1) order (set positions t i)
one_placed i order positions t inside few here within free w = record {
  long = length-set positions t i ∙ w.long;
  below = λ k l. below k l (cases_eq k i);
  seen = λ k l. seen k l (cases_eq k i);
  from = λ a l. from a l (cases_eq a t);
}
  where
    below : (k : ℕ) → k < i + 1 → (k ≡ i) ⊎ (k ≡ i → ⊥) → get_or order k 0 < length order
    below k l (inl same) = rw (same, here) within
    below k l (inr apart) = w.below k (omega arith)

    there : t < length positions
    there = omega (arith, w.long)

    other : (k : ℕ) → k < i → get_or order k 0 ≢ t
    other k l e = absurd (omega (arith, w.seen k l, ap (λ z. get_or positions z 0) e, free))

    seen : (k : ℕ) → k < i + 1 → (k ≡ i) ⊎ (k ≡ i → ⊥) → get_or (set positions t i) (get_or order k 0) 0 ≡ k
    seen k l (inl same) = rw (same, here) (get_or-set_same positions t i 0 there)
    seen k l (inr apart) = let low : k < i = omega arith in get_or-set_other positions t (get_or order k 0) i 0 (other k low) ∙ w.seen k low

    older : (a : ℕ) → (get_or positions a 0 ≡ unplaced) ⊎ ((get_or positions a 0 < i) × (get_or order (get_or positions a 0) 0 ≡ a))
        → (get_or positions a 0 ≡ unplaced) ⊎ ((get_or positions a 0 < i + 1) × (get_or order (get_or positions a 0) 0 ≡ a))
    older a (inl none) = inl none
    older a (inr p) = inr (omega (arith, p.0), p.1)

    from : (a : ℕ) → a < length order → (a ≡ t) ⊎ (a ≡ t → ⊥)
        → (get_or (set positions t i) a 0 ≡ unplaced) ⊎ ((get_or (set positions t i) a 0 < i + 1) × (get_or order (get_or (set positions t i) a 0) 0 ≡ a))
    from a l (inl same) = rw (same, get_or-set_same positions t i 0 there) (inr (omega arith, here))
    from a l (inr apart) = rw (get_or-set_other positions t a i 0 apart) (older a (w.from a l))

-- a number too great, a number twice, a number that is missing

pub too_great : (i : ℕ) (order : List ℕ) (t : ℕ) → i < length order → get_or order i 0 ≡ t → length order ≤ t → IsNumbering (length order) order → ⊥
too_great i order t inside here above h = absurd (omega (arith, h.below i 0 inside))

pub twice : (i : ℕ) (order positions : List ℕ) (t : ℕ) → i < length order → get_or order i 0 ≡ t → t < length order → (get_or positions t 0 ≡ unplaced → ⊥)
    → ArePositionsTo i order positions → IsNumbering (length order) order → ⊥
twice i order positions t inside here within seen w h = go (w.from t within)
  where
    go : (get_or positions t 0 ≡ unplaced) ⊎ ((get_or positions t 0 < i) × (get_or order (get_or positions t 0) 0 ≡ t)) → ⊥
    go (inl none) = seen none
    go (inr p) = h.once (get_or positions t 0) i p.0 inside (p.1 ∙ sym here)

pub missing : (i : ℕ) (order positions : List ℕ) → length order ≤ i → length order < 4294967295 → ArePositionsTo i order positions → Contains positions unplaced
    → IsNumbering (length order) order → ⊥
missing i order positions all few w (a, l, e) h =
    let k = h.each a (omega (arith, w.long)) in
    let at : get_or order k.0 0 ≡ a = get_or_default order k.0 0 a k.1 ∙ k.2 in
    let here : get_or positions a 0 ≡ unplaced = get_or_default positions a 0 unplaced l ∙ e in
    absurd (omega (arith, w.seen k.0 (omega (arith, k.1)), ap (λ z. get_or positions z 0) at, here, k.1))

pub all_placed : (i : ℕ) (order positions : List ℕ) → length order ≡ i → ArePositionsTo i order positions → (Contains positions unplaced → ⊥) → ArePositions order positions
all_placed i order positions all w none = record {
  numbering = record {
    below = λ k d l. rw (get_or_default order k d 0 l) (w.below k (omega arith));
    each = λ a l. each a l (w.from a l);
    once = λ j k l m e. absurd (omega (arith, w.seen j (omega arith), w.seen k (omega arith), ap (λ z. get_or positions z 0) e));
  };
  long = w.long;
  within = λ a l. within a l (w.from a l);
  here = λ a l. here a l (w.from a l);
}
  where
    free : (a : ℕ) → a < length order → get_or positions a 0 ≡ unplaced → ⊥
    free a l e = none (a, omega (arith, w.long), get_or_default positions a unplaced 0 (omega (arith, w.long)) ∙ e)

    each : (a : ℕ) → a < length order → (get_or positions a 0 ≡ unplaced) ⊎ ((get_or positions a 0 < i) × (get_or order (get_or positions a 0) 0 ≡ a)) → Contains order a
    each a l (inl e) = absurd (free a l e)
    each a l (inr p) = let low : get_or positions a 0 < length order =
        omega (arith, p.0) in (get_or positions a 0, low, get_or_default order (get_or positions a 0) a 0 low ∙ p.1)

    within : (a : ℕ) → a < length order → (get_or positions a 0 ≡ unplaced) ⊎ ((get_or positions a 0 < i) × (get_or order (get_or positions a 0) 0 ≡ a))
        → get_or positions a 0 < length order
    within a l (inl e) = absurd (free a l e)
    within a l (inr p) = omega (arith, p.0)

    here : (a : ℕ) → a < length order → (get_or positions a 0 ≡ unplaced) ⊎ ((get_or positions a 0 < i) × (get_or order (get_or positions a 0) 0 ≡ a))
        → get_or order (get_or positions a 0) 0 ≡ a
    here a l (inl e) = absurd (free a l e)
    here a l (inr p) = p.1

-- whether some number was not seen

pub found_unplaced : (positions : List ℕ) → list_any (λ y. eqb y unplaced) positions ≡ true → Contains positions unplaced
found_unplaced [] h = absurd (false≢true h)
found_unplaced (x ∷ positions) h = go (found_unplaced positions) (or_cases (eqb x unplaced) (list_any (λ y. eqb y unplaced) positions) h)
  where
    go : (list_any (λ y. eqb y unplaced) positions ≡ true → Contains positions unplaced)
        → (eqb x unplaced ≡ true) ⊎ (list_any (λ y. eqb y unplaced) positions ≡ true) → Contains (x ∷ positions) unplaced
    go rest (inl e) = (0, omega arith, eqb-true x unplaced e)
    go rest (inr r) = let w = rest r in (suc w.0, omega (arith, w.1), w.2)

pub no_unplaced : (positions : List ℕ) → list_any (λ y. eqb y unplaced) positions ≡ false → Contains positions unplaced → ⊥
no_unplaced [] h (k, l, e) = absurd (omega arith)
no_unplaced (x ∷ positions) h (zero, l, e) =
    both_ways (eqb x unplaced) (or_parts (eqb x unplaced) (list_any (λ y. eqb y unplaced) positions) h).0 (eq-eqb x unplaced e)
no_unplaced (x ∷ positions) h (suc k, l, e) = no_unplaced positions (or_parts (eqb x unplaced) (list_any (λ y. eqb y unplaced) positions) h).1 (k, omega arith, e)
