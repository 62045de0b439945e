-- The passes along an order, one place at a time.
use Rattle.std.proofs.Common.{◌≡◌, ◌≢◌, ◌<◌, ◌≤◌, ◌+◌, ◌⊎◌, ◌↔◌, inl, inr, ℕ, Bool, true, false, List, [], ◌∷◌, ◌++◌, length, length-append, get_or, set, refl, sym, ap, subst, ◌∙◌, arith}
use Rattle.std.specs.Prelude.{max, min, nat_lt, ◌&&◌, ◌||◌}
use Rattle.std.proofs.lemmas.Bool.{and_from, and_parts, cases_eq, cases_lt, false≢true, lt-ltb, ltb-true, or_cases, or_left, or_right}
use Rattle.std.proofs.lemmas.List.{get_or_append_left, get_or_at, get_or-set_same, get_or-set_other, length-set}
use Rattle.tcc_lanes.specs.declared.pricing.TheConstants.{NONE}
use Rattle.tcc_lanes.specs.private.Passes.{AreAllCovered, AreBeyond, AreCovered, AreReachedOn, IsBeyond, IsCovered, IsLeastPrice, IsReachedOn, last_at, price_at}

-- ---- one more answer
module _ (Is : ℕ → Type 0) (end : ℕ) (list : List Bool) (long : length list ≡ end) (one : Bool) where
  pub told_long : length (list ++ one ∷ []) ≡ end + 1
  told_long = omega (arith, length-append list (one ∷ []), long)

  pub told_more : ((place : ℕ) → place < end → (get_or list place false ≡ true) ↔ Is place) → (one ≡ true) ↔ Is end
      → (place : ℕ) → place < end + 1 → (get_or (list ++ one ∷ []) place false ≡ true) ↔ Is place
  told_more all is place less = go (cases_eq place end)
    where
      here : get_or (list ++ one ∷ []) (length list) false ≡ one
      here = get_or_at list one [] false (length list) refl

      go : (place ≡ end) ⊎ (place ≢ end) → (get_or (list ++ one ∷ []) place false ≡ true) ↔ Is place
      go (inl same) = rw (same, sym long, here) (rw (sym long) at is)
      go (inr other) = rw (get_or_append_left list (one ∷ []) false place (omega (arith, less, other, long))) (all place (omega (arith, less, other)))

-- ---- how far the places so far lead back
module _ (order lasts : List ℕ) where
  -- the last position of the first places, 0 where there is none
  pub record IsFarthest (end : ℕ) (far : ℕ) : Type 0 where
    pub attained : (far ≡ 0) ⊎ ((i : ℕ) × (i < end) × (last_at order lasts i ≡ far))
    pub highest : (i : ℕ) → i < end → last_at order lasts i ≤ far

  pub farthest_none : IsFarthest 0 0
  farthest_none = record { attained = inl refl; highest = λ i l. absurd (omega arith) }

  pub farthest_more : (end far : ℕ) → IsFarthest end far → IsFarthest (end + 1) (max (last_at order lasts end) far)
  farthest_more end far w = record { attained = go (cases_lt far (last_at order lasts end)) w.attained; highest = λ i l. high i l (cases_eq i end) }
    where
      go : (far < last_at order lasts end) ⊎ (last_at order lasts end ≤ far) → (far ≡ 0) ⊎ ((i : ℕ) × (i < end) × (last_at order lasts i ≡ far))
          → (max (last_at order lasts end) far ≡ 0) ⊎ ((i : ℕ) × (i < end + 1) × (last_at order lasts i ≡ max (last_at order lasts end) far))
      go (inl more) p = inr (end, omega arith, omega (arith, more))
      go (inr less) (inl none) = inl (omega (arith, less, none))
      go (inr less) (inr (i, l, is)) = inr (i, omega (arith, l), omega (arith, is, less))

      high : (i : ℕ) → i < end + 1 → (i ≡ end) ⊎ (i ≢ end) → last_at order lasts i ≤ max (last_at order lasts end) far
      high i l (inl same) = omega (arith, ap (last_at order lasts) same)
      high i l (inr other) = omega (arith, w.highest i (omega (arith, l, other)))

  pub covered_here : (place far : ℕ) → IsFarthest (place + 1) far → (nat_lt place far ≡ true) ↔ IsCovered order lasts place
  covered_here place far w = ((λ is. there w.attained (ltb-true place far is)), back)
    where
      there : (far ≡ 0) ⊎ ((i : ℕ) × (i < place + 1) × (last_at order lasts i ≡ far)) → place < far → IsCovered order lasts place
      there (inl none) less = absurd (omega (arith, none, less))
      there (inr (i, l, is)) less = (i, omega (arith, l), omega (arith, is, less))

      back : IsCovered order lasts place → nat_lt place far ≡ true
      back (i, l, less) = lt-ltb place far (omega (arith, less, w.highest i (omega (arith, l))))

  pub covered_none : AreCovered order lasts 0 []
  covered_none = record { long = refl; each = λ place l. absurd (omega arith) }

  pub covered_more : (place far : ℕ) (covered : List Bool) → IsFarthest (place + 1) far → AreCovered order lasts place covered
      → AreCovered order lasts (place + 1) (covered ++ nat_lt place far ∷ [])
  covered_more place far covered w all = record {
    long = told_long (IsCovered order lasts) place covered all.long (nat_lt place far);
    each = told_more (IsCovered order lasts) place covered all.long (nat_lt place far) all.each (covered_here place far w);
  }

  -- ---- what is reached forward
  module _ (covered : List Bool) where
    pub record IsReaching (place : ℕ) (here : Bool) (reached : List Bool) : Type 0 where
      pub here_is : (here ≡ true) ↔ IsReachedOn order lasts covered place
      pub all : AreReachedOn order lasts covered place reached

    pub reaching_none : IsReaching 0 false []
    reaching_none = record {
      here_is = ((λ is. absurd (false≢true is)), λ is. absurd (omega (arith, is.1)));
      all = record { long = refl; each = λ place l. absurd (omega arith) };
    }

    pub reaching_more : (place : ℕ) (here : Bool) (reached : List Bool) → IsReaching place here reached
        → IsReaching (place + 1) ((here || nat_lt 0 (last_at order lasts place)) && get_or covered place false) (reached ++ here ∷ [])
    reaching_more place here reached w = record {
      here_is = (there, back);
      all = record {
        long = told_long (IsReachedOn order lasts covered) place reached w.all.long here;
        each = told_more (IsReachedOn order lasts covered) place reached w.all.long here w.all.each w.here_is;
      };
    }
      where
        ends : Bool
        ends = nat_lt 0 (last_at order lasts place)

        now : Bool
        now = get_or covered place false

        on : (i : ℕ) → AreAllCovered covered i place → now ≡ true → AreAllCovered covered i (place + 1)
        on i all is at low high = go (cases_eq at place)
          where
            go : (at ≡ place) ⊎ (at ≢ place) → get_or covered at false ≡ true
            go (inl same) = ap (λ z. get_or covered z false) same ∙ is
            go (inr other) = all at low (omega (arith, high, other))

        there : ((here || ends) && now) ≡ true → IsReachedOn order lasts covered (place + 1)
        there is = go (or_cases here ends (and_parts (here || ends) now is).0)
          where
            some : now ≡ true
            some = (and_parts (here || ends) now is).1

            go : (here ≡ true) ⊎ (ends ≡ true) → IsReachedOn order lasts covered (place + 1)
            go (inl before) = let (i, less, ended, all) = w.here_is.0 before in (i, omega (arith, less), ended, on i all some)
            go (inr ended) =
                (place, omega arith, ltb-true 0 (last_at order lasts place) ended, on place (λ at low high. absurd (omega (arith, low, high))) some)

        back : IsReachedOn order lasts covered (place + 1) → ((here || ends) && now) ≡ true
        back (i, less, ended, all) = and_from (here || ends) now (go (cases_eq i place)) (all place (omega (arith, less)) (omega arith))
          where
            go : (i ≡ place) ⊎ (i ≢ place) → (here || ends) ≡ true
            go (inl same) = or_right here ends (lt-ltb 0 (last_at order lasts place) (subst (λ (z : ℕ). 0 < last_at order lasts z) same ended))
            go (inr other) = or_left here ends (w.here_is.1 (i, omega (arith, less, other), ended, λ at low high. all at low (omega (arith, high))))

-- ---- the links that begin at a later place
pub least_price_as : (Is Other : ℕ → Type 0) (least : ℕ) → ((price : ℕ) → Is price → Other price) → ((price : ℕ) → Other price → Is price) → IsLeastPrice Is least
    → IsLeastPrice Other least
least_price_as Is Other least there back w = record { high = w.high; attained = go w.attained; lowest = λ price is. w.lowest price (back price is) }
  where
    go : (least ≡ NONE) ⊎ Is least → (least ≡ NONE) ⊎ Other least
    go (inl none) = inl none
    go (inr is) = inr (there least is)

module _ (order prices : List ℕ) (covered : List Bool) where
  -- one of them begins at this price, at a place from this one on, and each place up to there is covered
  abbrev pub IsFrom : ℕ → ℕ → Type 0
  IsFrom place price = (k : ℕ) × (place ≤ k) × (k < length order) × AreAllCovered covered place k × (price_at order prices k ≡ price)

  pub record IsGoingBack (place : ℕ) (later : ℕ) (found : List ℕ) : Type 0 where
    pub later_is : IsLeastPrice (IsFrom place) later
    pub all : AreBeyond order prices covered place found

  pub going_none : (place : ℕ) (found : List ℕ) → length found ≡ length order → length order ≤ place → IsGoingBack place NONE found
  going_none place found long past = record {
    later_is = record { high = omega arith; attained = inl refl; lowest = λ price is. absurd (omega (arith, is.1, is.2, past)) };
    all = record { long = long; each = λ at low high. absurd (omega (arith, low, high, past)) };
  }

  module _ (place later : ℕ) (found : List ℕ) (inside : place < length order) (w : IsGoingBack (place + 1) later found) where
    from_beyond : get_or covered place false ≡ true → (price : ℕ) → IsFrom (place + 1) price → IsBeyond order prices covered place price
    from_beyond some price (k, low, less, all, is) = (k, omega (arith, low), less, (λ at from high. go at from high (cases_eq at place)), is)
      where
        go : (at : ℕ) → place ≤ at → at < k → (at ≡ place) ⊎ (at ≢ place) → get_or covered at false ≡ true
        go at from high (inl same) = ap (λ z. get_or covered z false) same ∙ some
        go at from high (inr other) = all at (omega (arith, from, other)) high

    beyond_from : (price : ℕ) → IsBeyond order prices covered place price → IsFrom (place + 1) price
    beyond_from price (k, low, less, all, is) = (k, omega (arith, low), less, (λ at from high. all at (omega (arith, from)) high), is)

    pub beyond_some : get_or covered place false ≡ true → IsLeastPrice (IsBeyond order prices covered place) later
    beyond_some some = least_price_as (IsFrom (place + 1)) (IsBeyond order prices covered place) later (from_beyond some) beyond_from w.later_is

    pub beyond_none : get_or covered place false ≡ false → IsLeastPrice (IsBeyond order prices covered place) NONE
    beyond_none none = record {
      high = omega arith;
      attained = inl refl;
      lowest = λ price is. absurd (false≢true (sym none ∙ is.3 place (omega arith) is.1));
    }

    pub going_more : (here : ℕ) → IsLeastPrice (IsBeyond order prices covered place) here → price_at order prices place ≤ NONE
        → IsGoingBack place (min (price_at order prices place) here) (set found place here)
    going_more here is high = record {
      later_is = record {
        high = omega (arith, high);
        attained = attained (cases_lt (price_at order prices place) here) is.attained;
        lowest = λ price one. lowest price one (cases_eq one.0 place);
      };
      all = record {
        long = length-set found place here ∙ w.all.long;
        each = λ at low less. each at low less (cases_eq at place);
      };
    }
      where
        least : ℕ
        least = min (price_at order prices place) here

        attained : (price_at order prices place < here) ⊎ (here ≤ price_at order prices place) → (here ≡ NONE) ⊎ IsBeyond order prices covered place here
            → (least ≡ NONE) ⊎ IsFrom place least
        attained (inl less) p = inr (place, omega arith, inside, (λ at low high_at. absurd (omega (arith, low, high_at))), omega (arith, less))
        attained (inr more) (inl none) = inl (omega (arith, more, none, high))
        attained (inr more) (inr (k, low, less, all, at)) = inr (k, omega (arith, low), less, all, omega (arith, at, more))

        lowest : (price : ℕ) → (one : IsFrom place price) → (one.0 ≡ place) ⊎ (one.0 ≢ place) → least ≤ price
        lowest price (k, low, less, all, at) (inl same) = omega (arith, at, ap (price_at order prices) same)
        lowest price (k, low, less, all, at) (inr other) = omega (arith, is.lowest price (k, omega (arith, low, other), less, all, at))

        each : (at : ℕ) → place ≤ at → at < length order → (at ≡ place) ⊎ (at ≢ place) → IsLeastPrice (IsBeyond order prices covered at) (get_or (set found place here) at 0)
        each at low less (inl same) = rw (same, get_or-set_same found place here 0 (omega (arith, inside, w.all.long))) is
        each at low less (inr other) = rw (get_or-set_other found place at here 0 other) (w.all.each at (omega (arith, low, other)) less)
