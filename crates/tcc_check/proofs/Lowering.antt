-- Rows whose numbers are lowered, by one relation after another.
use Rattle.std.proofs.Common.{◌≡◌, ◌<◌, ◌≤◌, ℕ, ◌⊎◌, inl, inr, List, length, get_or, set, min, arith, refl, sym, ap, subst, ◌∙◌}
use Rattle.std.proofs.lemmas.Bool.{cases_eq, cases_lt}
use Rattle.std.proofs.lemmas.List.{get_or-set_same, get_or-set_other, length-set}
use Rattle.tcc_check.specs.private.Weights.{IsLowered}

-- nothing was lowered
pub lowered_none : (P : ℕ → ℕ → Type 0) (row : List ℕ) → ((u w : ℕ) → P u w → ⊥) → IsLowered P row row
lowered_none P row none = record {
  long = refl;
  kept = λ u l. omega arith;
  low = λ u w l p. absurd (none u w p);
  from = λ u l. inl refl;
}

pub lowered_as : (P Q : ℕ → ℕ → Type 0) (old new : List ℕ) → ((u w : ℕ) → P u w → Q u w) → ((u w : ℕ) → Q u w → P u w) → IsLowered P old new
    → IsLowered Q old new
lowered_as P Q old new to back h = record {
  long = h.long;
  kept = h.kept;
  low = λ u w l q. h.low u w l (back u w q);
  from = λ u l. go u (h.from u l);
}
  where
    go : (u : ℕ) → (get_or new u 0 ≡ get_or old u 0) ⊎ P u (get_or new u 0) → (get_or new u 0 ≡ get_or old u 0) ⊎ Q u (get_or new u 0)
    go u (inl same) = inl same
    go u (inr p) = inr (to u (get_or new u 0) p)

pub lowered_then : (P Q : ℕ → ℕ → Type 0) (one two three : List ℕ) → IsLowered P one two → IsLowered Q two three → IsLowered (λ u w. P u w ⊎ Q u w) one three
lowered_then P Q one two three g h = record {
  long = h.long ∙ g.long;
  kept = λ u l. omega (arith, g.kept u l, h.kept u (omega (arith, g.long)));
  low = λ u w l e. under u w l e;
  from = λ u l. found u (g.from u l) (h.from u (omega (arith, g.long)));
}
  where
    under : (u w : ℕ) → u < length one → P u w ⊎ Q u w → get_or three u 0 ≤ w
    under u w l (inl p) = omega (arith, g.low u w l p, h.kept u (omega (arith, g.long)))
    under u w l (inr q) = h.low u w (omega (arith, g.long)) q

    found : (u : ℕ) → (get_or two u 0 ≡ get_or one u 0) ⊎ P u (get_or two u 0) → (get_or three u 0 ≡ get_or two u 0) ⊎ Q u (get_or three u 0)
        → (get_or three u 0 ≡ get_or one u 0) ⊎ (P u (get_or three u 0) ⊎ Q u (get_or three u 0))
    found u first (inr q) = inr (inr q)
    found u (inl before) (inl same) = inl (same ∙ before)
    found u (inr p) (inl same) = inr (inl (subst (λ (z : ℕ). P u z) (sym same) p))

-- one number was lowered
pub lowered_one : (row : List ℕ) (u w : ℕ) → u < length row → IsLowered (λ t z. (t ≡ u) × (z ≡ w)) row (set row u (min (get_or row u 0) w))
lowered_one row u w below = record {
  long = length-set row u (min (get_or row u 0) w);
  kept = λ t l. kept t (cases_eq t u);
  low = λ t z l p. low t z p;
  from = λ t l. from t (cases_eq t u);
}
  where
    here : (t : ℕ) → t ≡ u → get_or (set row u (min (get_or row u 0) w)) t 0 ≡ min (get_or row u 0) w
    here t e = rw e (get_or-set_same row u (min (get_or row u 0) w) 0 below)

    kept : (t : ℕ) → (t ≡ u) ⊎ (t ≡ u → ⊥) → get_or (set row u (min (get_or row u 0) w)) t 0 ≤ get_or row t 0
    kept t (inl e) = omega (arith, here t e, ap (λ z. get_or row z 0) e)
    kept t (inr ne) = omega (arith, get_or-set_other row u t (min (get_or row u 0) w) 0 ne)

    low : (t z : ℕ) → (t ≡ u) × (z ≡ w) → get_or (set row u (min (get_or row u 0) w)) t 0 ≤ z
    low t z p = omega (arith, here t p.0, p.1)

    split : (t : ℕ) → t ≡ u → (get_or row u 0 ≤ w) ⊎ (w < get_or row u 0)
        → (get_or (set row u (min (get_or row u 0) w)) t 0 ≡ get_or row t 0) ⊎ ((t ≡ u) × (get_or (set row u (min (get_or row u 0) w)) t 0 ≡ w))
    split t e (inl small) = inl (omega (arith, here t e, ap (λ z. get_or row z 0) e))
    split t e (inr large) = inr (e, omega (arith, here t e))

    turn : (w < get_or row u 0) ⊎ (get_or row u 0 ≤ w) → (get_or row u 0 ≤ w) ⊎ (w < get_or row u 0)
    turn (inl l) = inr l
    turn (inr l) = inl l

    from : (t : ℕ) → (t ≡ u) ⊎ (t ≡ u → ⊥) → (get_or (set row u (min (get_or row u 0) w)) t 0 ≡ get_or row t 0)
        ⊎ ((t ≡ u) × (get_or (set row u (min (get_or row u 0) w)) t 0 ≡ w))
    from t (inl e) = split t e (turn (cases_lt w (get_or row u 0)))
    from t (inr ne) = inl (get_or-set_other row u t (min (get_or row u 0) w) 0 ne)
