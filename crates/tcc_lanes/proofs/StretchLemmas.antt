-- Rows of prices as stretches of columns with the same price.
use Rattle.std.proofs.Common.{◌≡◌, ◌<◌, ◌≤◌, ◌+◌, ◌-◌, ◌⊎◌, inl, inr, ℕ, suc, zero, List, [], ◌∷◌, ◌++◌, length, get_or, set, drop, replicate, refl, sym, ap, subst, ◌∙◌, arith}
use Rattle.std.specs.Prelude.{min}
use Rattle.std.proofs.lemmas.Bool.{cases_lt}
use Rattle.std.proofs.lemmas.List.{append-nil, append_assoc, drop_all, drop_more, get_or-append_right, get_or-replicate, get_or_append_left, length-append, length-replicate, replicate-append-replicate}
use Rattle.tcc_lanes.specs.declared.stretches.Stretch.{Stretch}
use Rattle.tcc_lanes.specs.private.Stretches.{prices_in, prices_of}

abbrev none : Stretch
none = record { columns = 0; price = 0 }

-- ---- one more column
one_more : (c p : ℕ) → replicate (c + 1) p ++ [] ≡ (replicate c p ++ []) ++ p ∷ []
one_more c p =
    append-nil (replicate (c + 1) p) ∙ (sym (replicate-append-replicate c 1 p) ∙ ap (λ (l : List ℕ). l ++ p ∷ []) (sym (append-nil (replicate c p))))

pub longer_last : (xs : List Stretch) (k : ℕ) (s : Stretch) (price : ℕ) → k + 1 ≡ length xs → s ≡ get_or xs k none → s.price ≡ price
    → prices_in (set xs k (record { columns = s.columns + 1; price = s.price })) ≡ prices_in xs ++ price ∷ []
longer_last [] k s price last is same = absurd (omega (arith, last))
longer_last (x ∷ []) zero s price last is same =
    subst (λ (z : Stretch). prices_in (record { columns = s.columns + 1; price = s.price } ∷ []) ≡ prices_in (z ∷ []) ++ price ∷ []) is
    (subst (λ (q : ℕ). prices_in (record { columns = s.columns + 1; price = s.price } ∷ []) ≡ prices_in (s ∷ []) ++ q ∷ []) same (one_more s.columns s.price))
longer_last (x ∷ []) (suc k) s price last is same = absurd (omega (arith, last))
longer_last (x ∷ y ∷ ys) zero s price last is same = absurd (omega (arith, last))
longer_last (x ∷ y ∷ ys) (suc k) s price last is same =
    ap (λ (l : List ℕ). prices_of x ++ l) (longer_last (y ∷ ys) k s price (omega (arith, last)) is same)
    ∙ sym (append_assoc (prices_of x) (prices_in (y ∷ ys)) (price ∷ []))

pub last_few : (xs : List Stretch) (k : ℕ) (s : Stretch) → k < length xs → s ≡ get_or xs k none → s.columns ≤ length (prices_in xs)
last_few [] k s inside is = absurd (omega (arith, inside))
last_few (x ∷ xs) zero s inside is =
    omega (arith, ap (λ (z : Stretch). z.columns) is, length-append (prices_of x) (prices_in xs), length-replicate {A = ℕ} x.columns x.price)
last_few (x ∷ xs) (suc k) s inside is = omega (arith, last_few xs k s (omega (arith, inside)) is, length-append (prices_of x) (prices_in xs))

-- ---- the stretch at an index, and those after it
module _ (stretches : List Stretch) (k : ℕ) (inside : k < length stretches) where
  abbrev this : Stretch
  this = get_or stretches k none

  abbrev later : List ℕ
  later = prices_in (drop (k + 1) stretches)

  split : prices_in (drop k stretches) ≡ prices_of this ++ later
  split = ap prices_in (drop_more stretches k none inside)

  long : length (prices_in (drop k stretches)) ≡ this.columns + length later
  long = ap length split ∙ omega (arith, length-append (prices_of this) later, length-replicate {A = ℕ} this.columns this.price)

  in_this : (i : ℕ) → i < this.columns → get_or (prices_in (drop k stretches)) i 0 ≡ this.price
  in_this i low =
      ap (λ (l : List ℕ). get_or l i 0) split
      ∙ (get_or_append_left (prices_of this) later 0 i (omega (arith, low, length-replicate {A = ℕ} this.columns this.price))
      ∙ get_or-replicate this.columns i this.price 0 low)

  in_later : (i : ℕ) → this.columns ≤ i → get_or (prices_in (drop k stretches)) i 0 ≡ get_or later (i - this.columns) 0
  in_later i high =
      ap (λ (l : List ℕ). get_or l i 0) split
      ∙ get_or-append_right (prices_of this) later this.columns i 0 (length-replicate {A = ℕ} this.columns this.price) high

-- ---- the price of a column
pub record IsLeft (row : List ℕ) (column : ℕ) (stretches : List Stretch) (k : ℕ) (left : ℕ) : Type 0 where
  pub within : left < length (prices_in (drop k stretches))
  pub here : get_or (prices_in (drop k stretches)) left 0 ≡ get_or row column 0

pub left_first : (row : List ℕ) (column : ℕ) (stretches : List Stretch) → prices_in stretches ≡ row → column < length row → IsLeft row column stretches 0 column
left_first row column stretches is low = record {
  within = subst (λ (z : List ℕ). column < length z) (sym is) low;
  here = ap (λ (z : List ℕ). get_or z column 0) is;
}

module _ (row : List ℕ) (column : ℕ) (stretches : List Stretch) (k left : ℕ) (inside : k < length stretches) (w : IsLeft row column stretches k left) where
  pub left_here : left < (get_or stretches k none).columns → (get_or stretches k none).price ≡ get_or row column 0
  left_here low = sym (in_this stretches k inside left low) ∙ w.here

  pub left_more : (get_or stretches k none).columns ≤ left → IsLeft row column stretches (k + 1) (left - (get_or stretches k none).columns)
  left_more high = record {
    within = omega (arith, w.within, long stretches k inside, high);
    here = sym (in_later stretches k inside left high) ∙ w.here;
  }

pub left_none : (row : List ℕ) (column : ℕ) (stretches : List Stretch) (k left : ℕ) → length stretches ≤ k → IsLeft row column stretches k left → ⊥
left_none row column stretches k left past w =
    let few : left < length (prices_in []) = subst (λ (z : List Stretch). left < length (prices_in z)) (drop_all k stretches past) w.within in omega (arith, few)

-- ---- where a stretch is in a row
pub record IsPlaced (row : List ℕ) (stretches : List Stretch) (k : ℕ) (from : ℕ) : Type 0 where
  pub ends : from + length (prices_in (drop k stretches)) ≡ length row
  pub at : (i : ℕ) → get_or (prices_in (drop k stretches)) i 0 ≡ get_or row (from + i) 0

pub placed_none : (row : List ℕ) (stretches : List Stretch) → prices_in stretches ≡ row → IsPlaced row stretches 0 0
placed_none row stretches is = record {
  ends = omega (arith, ap length is);
  at = λ i. ap (λ (z : List ℕ). get_or z i 0) is ∙ ap (λ (n : ℕ). get_or row n 0) (front i);
}
  where
    front : (i : ℕ) → i ≡ 0 + i
    front i = omega arith

module _ (row : List ℕ) (stretches : List Stretch) (k from : ℕ) (inside : k < length stretches) (w : IsPlaced row stretches k from) where
  abbrev columns : ℕ
  columns = (get_or stretches k none).columns

  pub room : from + columns ≤ length row
  room = omega (arith, w.ends, long stretches k inside)

  pub placed_more : IsPlaced row stretches (k + 1) (from + columns)
  placed_more = record {
    ends = omega (arith, w.ends, long stretches k inside);
    at = λ i. sym (later_at i) ∙ (w.at (columns + i) ∙ ap (λ (n : ℕ). get_or row n 0) (beyond i));
  }
    where
      beyond : (i : ℕ) → from + (columns + i) ≡ from + columns + i
      beyond i = omega arith

      back : (i : ℕ) → columns + i - columns ≡ i
      back i = omega arith

      later_at : (i : ℕ) → get_or (prices_in (drop k stretches)) (columns + i) 0 ≡ get_or (prices_in (drop (k + 1) stretches)) i 0
      later_at i = in_later stretches k inside (columns + i) (omega arith) ∙ ap (λ (n : ℕ). get_or (prices_in (drop (k + 1) stretches)) n 0) (back i)

  pub price_here : (v : ℕ) → from ≤ v → v < from + columns → (get_or stretches k none).price ≡ get_or row v 0
  price_here v here l =
      sym (in_this stretches k inside (v - from) (omega (arith, here, l))) ∙ (w.at (v - from) ∙ ap (λ (n : ℕ). get_or row n 0) there)
    where
      there : from + (v - from) ≡ v
      there = omega (arith, here)

pub placed_all : (row : List ℕ) (stretches : List Stretch) (k from : ℕ) → length stretches ≤ k → IsPlaced row stretches k from → from ≡ length row
placed_all row stretches k from past w = omega (arith, w.ends, ap (λ (z : List Stretch). length (prices_in z)) (drop_all k stretches past))

-- ---- going on by a row
pub record IsRelaxed (row : List ℕ) (costs : List ℕ) (level : ℕ) (stretches : List Stretch) (k : ℕ) (from : ℕ) (new : List ℕ) : Type 0 where
  pub same : length new ≡ length costs
  pub placed : IsPlaced row stretches k from
  pub each : (v : ℕ) → v < from → get_or new v 0 ≡ min (get_or costs v 0) (level + get_or row v 0)
  pub rest : (v : ℕ) → from ≤ v → get_or new v 0 ≡ get_or costs v 0

module _ (row costs : List ℕ) (level : ℕ) (stretches : List Stretch) where
  pub relaxed_none : prices_in stretches ≡ row → IsRelaxed row costs level stretches 0 0 costs
  relaxed_none is = record {
    same = refl;
    placed = placed_none row stretches is;
    each = λ v l. absurd (omega (arith, l));
    rest = λ v l. refl;
  }

  module _ (k from : ℕ) (mid : List ℕ) (inside : k < length stretches) (w : IsRelaxed row costs level stretches k from mid) where
    abbrev more : ℕ
    more = (get_or stretches k none).columns

    pub relaxed_more : (new : List ℕ) → length new ≡ length mid
        → ((v : ℕ) → from ≤ v → v < from + more → get_or new v 0 ≡ min (get_or mid v 0) (level + (get_or stretches k none).price))
        → ((v : ℕ) → (v < from) ⊎ (from + more ≤ v) → get_or new v 0 ≡ get_or mid v 0)
        → IsRelaxed row costs level stretches (k + 1) (from + more) new
    relaxed_more new alike lowered stays = record {
      same = alike ∙ w.same;
      placed = placed_more row stretches k from inside w.placed;
      each = λ v l. each v l (cases_lt v from);
      rest = λ v l. stays v (inr l) ∙ w.rest v (omega (arith, l));
    }
      where
        each : (v : ℕ) → v < from + more → (v < from) ⊎ (from ≤ v) → get_or new v 0 ≡ min (get_or costs v 0) (level + get_or row v 0)
        each v l (inl before) = stays v (inl before) ∙ w.each v before
        each v l (inr here) = omega (arith, lowered v here l, w.rest v here, price_here row stretches k from inside w.placed v here l)

  pub relaxed_all : (k from : ℕ) (new : List ℕ) → length stretches ≤ k → length row ≡ length costs → IsRelaxed row costs level stretches k from new
      → (v : ℕ) → v < length costs → get_or new v 0 ≡ min (get_or costs v 0) (level + get_or row v 0)
  relaxed_all k from new past same w v l = w.each v (omega (arith, l, same, placed_all row stretches k from past w.placed))
