-- The transactions over which a derived link leads back; and lists of marked indices.
use Rattle.std.proofs.Common.{◌≡◌, ◌≢◌, ◌<◌, ◌≤◌, ◌+◌, ◌-◌, ◌⊎◌, ◌↔◌, ◌++◌, ◌∷◌, [], inl, inr, ℕ, zero, suc, Bool, true, false, List, length, length-append, get_or, set, replicate, refl, sym, ap, subst, ◌∙◌, arith}
use Rattle.std.specs.Prelude.{max, nat_lt}
use Rattle.std.specs.List.{All, AllPairs, Contains}
use Rattle.std.proofs.lemmas.Bool.{cases_eq, cases_lt, cases_order, false≢true, lt-ltb, ltb-true}
use Rattle.std.proofs.lemmas.List.{get_or-set_same, get_or-set_other, get_or_default, length-set, length-replicate, get_or_append_left, get_or-append_right}
use Rattle.std.proofs.lemmas.List.Elements.{Contains-append_left, Contains-push, Contains-push_cases}
use Rattle.tcc_reads.specs.History.{History, count}
use Rattle.tcc_graph.specs.Orders.{Before, IsNumbering}
use Rattle.tcc_graph.proofs.Numberings.{below_in, one_index}
use Rattle.tcc_lanes.proofs.PassLemmas.{told_long, told_more}
use Rattle.tcc_judge.specs.Spanned.{AreFew, IsSpanned, IsStaleKey}
use Rattle.tcc_judge.specs.private.Contradicted.{AreContradicted, IsLedBackTo}
use Rattle.tcc_judge.specs.private.Members.{AreListed, AreMarkedBoth, AreMarkedLed, AreMarkedUnder, AreThose, DoAscend, IsFar, IsMarked, IsUnder}
use Rattle.tcc_judge.specs.private.Positions.{ArePositions}
use Rattle.tcc_judge.proofs.PositionLemmas.{at_before, before_at}

-- ---- the greatest last so far
pub far_none : (lasts : List ℕ) → IsFar lasts 0 0
far_none lasts = record { attained = inl refl; highest = λ i l. absurd (omega arith) }

pub far_more : (lasts : List ℕ) (i far : ℕ) → IsFar lasts i far → IsFar lasts (i + 1) (max (get_or lasts i 0) far)
far_more lasts i far w = record { attained = go (cases_lt far (get_or lasts i 0)) w.attained; highest = λ k l. high k l (cases_eq k i) }
  where
    go : (far < get_or lasts i 0) ⊎ (get_or lasts i 0 ≤ far) → (far ≡ 0) ⊎ ((k : ℕ) × (k < i) × (get_or lasts k 0 ≡ far))
        → (max (get_or lasts i 0) far ≡ 0) ⊎ ((k : ℕ) × (k < i + 1) × (get_or lasts k 0 ≡ max (get_or lasts i 0) far))
    go (inl more) before = inr (i, omega arith, omega arith)
    go (inr less) (inl none) = inl (omega arith)
    go (inr less) (inr (k, l, e)) = inr (k, omega arith, omega arith)

    high : (k : ℕ) → k < i + 1 → (k ≡ i) ⊎ (k ≢ i) → get_or lasts k 0 ≤ max (get_or lasts i 0) far
    high k l (inl same) = omega (arith, ap (λ z. get_or lasts z 0) same)
    high k l (inr other) = omega (arith, w.highest k (omega arith))

-- ---- marks place by place
module _ (n : ℕ) (order lasts : List ℕ) (numbering : IsNumbering n order) where
  pub under_none : AreMarkedUnder n order lasts 0 (replicate n false)
  under_none = record { long = length-replicate n false; each = λ place l. absurd (omega arith) }

  pub under_more : (i far : ℕ) (marks : List Bool) (is : Bool) → i < length order → IsFar lasts (i + 1) far → (is ≡ true) ↔ ((0 < far) × (i ≤ far)) → AreMarkedUnder n order lasts i marks
      → AreMarkedUnder n order lasts (i + 1) (set marks (get_or order i 0) is)
  under_more i far marks is inside w same before = record {
    long = length-set marks (get_or order i 0) is ∙ before.long;
    each = λ place l. go place l (cases_eq place i);
  }
    where
      here : get_or (set marks (get_or order i 0) is) (get_or order i 0) false ≡ is
      here = get_or-set_same marks (get_or order i 0) is false (omega (arith, below_in numbering i inside, before.long))

      under : (0 < far) × (i ≤ far) → IsUnder lasts i
      under (more, l) = at w.attained
        where
          at : (far ≡ 0) ⊎ ((k : ℕ) × (k < i + 1) × (get_or lasts k 0 ≡ far)) → IsUnder lasts i
          at (inl none) = absurd (omega arith)
          at (inr (k, m, e)) = (k, omega arith, omega arith, omega arith)

      below : IsUnder lasts i → (0 < far) × (i ≤ far)
      below (k, m, more, l) = (omega (arith, more, w.highest k (omega arith)), omega (arith, l, w.highest k (omega arith)))

      go : (place : ℕ) → place < i + 1 → (place ≡ i) ⊎ (place ≢ i)
          → (get_or (set marks (get_or order i 0) is) (get_or order place 0) false ≡ true) ↔ IsUnder lasts place
      go place l (inl e) =
          subst (λ (p : ℕ). (get_or (set marks (get_or order i 0) is) (get_or order p 0) false ≡ true) ↔ IsUnder lasts p) (sym e)
          ((λ marked. under (same.0 (sym here ∙ marked))), (λ is_under. here ∙ same.1 (below is_under)))
      go place l (inr other) =
          let apart : get_or order place 0 ≢ get_or order i 0 = λ e. other (one_index numbering place i (omega arith) inside e) in
          let kept = get_or-set_other marks (get_or order i 0) (get_or order place 0) is false apart in
          let was = before.each place (omega arith) in
          ((λ marked. was.0 (sym kept ∙ marked)), (λ is_under. kept ∙ was.1 is_under))

-- ---- the marked transactions
module _ (h : History) (order positions lasts : List ℕ) (stale : List Bool) (numbering : IsNumbering (count h) order) (first : get_or order 0 0 ≡ 0) (some : 0 < length order)
    (are : ArePositions (count h) order positions) (w : AreContradicted h order positions lasts stale)
    (marks : List Bool) (m : AreMarkedUnder (count h) order lasts (length order) marks) where
  place_of : (v : ℕ) → v < count h → (get_or marks v false ≡ true) ↔ IsUnder lasts (get_or positions v 0)
  place_of v l =
      subst (λ (z : ℕ). (get_or marks z false ≡ true) ↔ IsUnder lasts (get_or positions v 0)) (are.here v l) (m.each (get_or positions v 0) (are.within v l))

  at : (i : ℕ) → i < length order → get_or positions (get_or order i 0) 0 ≡ i
  at i l =
      let low = below_in numbering i l in
      one_index numbering (get_or positions (get_or order i 0) 0) i (are.within (get_or order i 0) low) l (are.here (get_or order i 0) low)

  pub marked_spanned : (v : ℕ) → IsMarked marks v → IsSpanned h order v
  marked_spanned v (l, is) = go ((place_of v low).0 is)
    where
      low : v < count h
      low = omega (arith, l, m.long)

      go : IsUnder lasts (get_or positions v 0) → IsSpanned h order v
      go (i, up, has, low_enough) = by (cases_eq i 0)
        where
          inside : i < length order
          inside = omega (arith, up, are.within v low)

          by : (i ≡ 0) ⊎ (i ≢ 0) → IsSpanned h order v
          by (inl none) = absurd (omega (arith, has, w.first, ap (λ z. get_or lasts z 0) none))
          by (inr more) = attained (w.each i (omega arith) inside).attained
            where
              positive : (get_or order i 0 ≡ 0) ⊎ (get_or order i 0 ≢ 0) → 0 < get_or order i 0
              positive (inl z) = absurd (more (one_index numbering i 0 inside some (z ∙ sym first)))
              positive (inr other) = omega arith

              attained : (get_or lasts i 0 ≡ 0) ⊎ IsLedBackTo h order positions (get_or order i 0) (get_or lasts i 0) → IsSpanned h order v
              attained (inl none) = absurd (omega (arith, none, has))
              attained (inr (b, x, c, walk, reason, apart, e)) = (
                b,
                get_or order i 0,
                x,
                c,
                walk,
                reason,
                positive (cases_eq (get_or order i 0) 0),
                low,
                (λ before. omega (arith, before_at (count h) order positions numbering are v (get_or order i 0) before, at i inside, up)),
                (λ before. omega (arith, before_at (count h) order positions numbering are b v before, e, low_enough)),
              )

  pub spanned_marked : (v : ℕ) → IsSpanned h order v → IsMarked marks v
  spanned_marked v (b, a, x, c, walk, reason, more, low, late, early) =
      (omega (arith, low, m.long), (place_of v low).1 (get_or positions a 0, up, has, under))
    where
      a_low : a < count h
      a_low = reason.0.1.0

      b_low : b < count h
      b_low = reason.0.2.0

      not_before : (u w : ℕ) → u < count h → w < count h → (Before order u w → ⊥) → get_or positions w 0 ≤ get_or positions u 0
      not_before u w l n apart = go (cases_lt (get_or positions u 0) (get_or positions w 0))
        where
          go : (get_or positions u 0 < get_or positions w 0) ⊎ (get_or positions w 0 ≤ get_or positions u 0) → get_or positions w 0 ≤ get_or positions u 0
          go (inl less) = absurd (apart (at_before (count h) order positions numbering are u w l n less))
          go (inr enough) = enough

      up : get_or positions a 0 ≤ get_or positions v 0
      up = not_before v a low a_low late

      on : get_or positions v 0 ≤ get_or positions b 0
      on = not_before b v b_low low early

      behind : (get_or positions a 0 ≡ 0) ⊎ (get_or positions a 0 ≢ 0) → 0 < get_or positions a 0
      behind (inl none) = absurd (omega (arith, more, are.here a a_low, ap (λ z. get_or order z 0) none, first))
      behind (inr other) = omega arith

      back : Before order b a → ⊥
      back before = omega (arith, before_at (count h) order positions numbering are b a before, up, on)

      highest : get_or positions b 0 ≤ get_or lasts (get_or positions a 0) 0
      highest =
          (w.each (get_or positions a 0) (behind (cases_eq (get_or positions a 0) 0)) (are.within a a_low)).highest (get_or positions b 0)
          (subst (λ (z : ℕ). IsLedBackTo h order positions z (get_or positions b 0)) (sym (are.here a a_low)) (b, x, c, walk, reason, back, refl))

      has : 0 < get_or lasts (get_or positions a 0) 0
      has = omega (arith, behind (cases_eq (get_or positions a 0) 0), highest, up, on)

      under : get_or positions v 0 ≤ get_or lasts (get_or positions a 0) 0
      under = omega (arith, highest, on)

-- ---- the transactions to which something leads back
module _ (n : ℕ) (order lasts : List ℕ) (numbering : IsNumbering n order) where
  pub led_more : (i : ℕ) (marks : List Bool) → i < length order → AreMarkedLed n order lasts i marks
      → AreMarkedLed n order lasts (i + 1) (set marks (get_or order i 0) (nat_lt 0 (get_or lasts i 0)))
  led_more i marks inside w = record {
    long = length-set marks (get_or order i 0) is ∙ w.long;
    each = λ place l. go place l (cases_eq place i);
  }
    where
      is : Bool
      is = nat_lt 0 (get_or lasts i 0)

      here : get_or (set marks (get_or order i 0) (nat_lt 0 (get_or lasts i 0))) (get_or order i 0) false ≡ nat_lt 0 (get_or lasts i 0)
      here = get_or-set_same marks (get_or order i 0) is false (omega (arith, below_in numbering i inside, w.long))

      go : (place : ℕ) → place < i + 1 → (place ≡ i) ⊎ (place ≢ i)
          → (get_or (set marks (get_or order i 0) (nat_lt 0 (get_or lasts i 0))) (get_or order place 0) false ≡ true) ↔ (0 < get_or lasts place 0)
      go place l (inl same) = rw (same, here) ((λ t. ltb-true 0 (get_or lasts i 0) t), (λ less. lt-ltb 0 (get_or lasts i 0) less))
      go place l (inr other) =
          let apart : get_or order place 0 ≢ get_or order i 0 = λ e. other (one_index numbering place i (omega arith) inside e) in
          rw (get_or-set_other marks (get_or order i 0) (get_or order place 0) is false apart) (w.each place (omega arith))

-- ---- what both mark
module _ (one other : List Bool) where
  pub both_more : (i : ℕ) (marks : List Bool) (is : Bool) → (is ≡ true) ↔ ((get_or one i false ≡ true) × (get_or other i false ≡ true))
      → AreMarkedBoth one other i marks → AreMarkedBoth one other (i + 1) (marks ++ is ∷ [])
  both_more i marks is same w = record {
    long = told_long (λ v. (get_or one v false ≡ true) × (get_or other v false ≡ true)) i marks w.long is;
    each = told_more (λ v. (get_or one v false ≡ true) × (get_or other v false ≡ true)) i marks w.long is w.each same;
  }

-- ---- lists
-- each of the first m has one of the first n, and no two have the same; so m is at most n
fits : (n m : ℕ) (Has : ℕ → ℕ → Type 0) → ((i : ℕ) → i < m → (k : ℕ) × (k < n) × Has i k)
    → ((i j k : ℕ) → i < m → j < m → Has i k → Has j k → i ≡ j) → m ≤ n
fits n zero Has each once = omega arith
fits zero (suc m) Has each once = absurd (omega (arith, (each 0 (omega arith)).1))
fits (suc n) (suc m) Has each once = let rest = fits n m Other other_each other_once in omega (arith, rest)
  where
    -- the one that the last has, for one that has the greatest
    Other : ℕ → ℕ → Type 0
    Other i k = Has i k ⊎ (Has i n × Has m k)

    other_each : (i : ℕ) → i < m → (k : ℕ) × (k < n) × Other i k
    other_each i l = go (each i (omega arith))
      where
        at_last : Has i n → (k : ℕ) × (k < suc n) × Has m k → (k : ℕ) × (k < n) × Other i k
        at_last mine (k, low, has) = by (cases_eq k n)
          where
            by : (k ≡ n) ⊎ (k ≢ n) → (k : ℕ) × (k < n) × Other i k
            by (inl same) = absurd (omega (arith, l, once i m n (omega arith) (omega arith) mine (subst (Has m) same has)))
            by (inr other) = (k, omega arith, inr (mine, has))

        go : (k : ℕ) × (k < suc n) × Has i k → (k : ℕ) × (k < n) × Other i k
        go (k, low, has) = by (cases_eq k n)
          where
            by : (k ≡ n) ⊎ (k ≢ n) → (k : ℕ) × (k < n) × Other i k
            by (inl same) = at_last (subst (Has i) same has) (each m (omega arith))
            by (inr other) = (k, omega arith, inl has)

    other_once : (i j k : ℕ) → i < m → j < m → Other i k → Other j k → i ≡ j
    other_once i j k l o (inl p) (inl q) = once i j k (omega arith) (omega arith) p q
    other_once i j k l o (inr p) (inl q) = absurd (omega (arith, o, once m j k (omega arith) (omega arith) p.1 q))
    other_once i j k l o (inl p) (inr q) = absurd (omega (arith, l, once i m k (omega arith) (omega arith) p q.1))
    other_once i j k l o (inr p) (inr q) = once i j n (omega arith) (omega arith) p.0 q.0

one_place : (list : List ℕ) → DoAscend list → (i j : ℕ) → i < length list → j < length list → get_or list i 0 ≡ get_or list j 0 → i ≡ j
one_place list ascend i j l m e = go (cases_order i j)
  where
    go : (i ≡ j) ⊎ ((i < j) ⊎ (j < i)) → i ≡ j
    go (inl same) = same
    go (inr (inl low)) = absurd (omega (arith, ascend i j low m, e))
    go (inr (inr high)) = absurd (omega (arith, ascend j i high l, e))

-- an ascending list has no more numbers than a list that has them all
no_more : (list others : List ℕ) → DoAscend list → ((n : ℕ) → Contains list n → Contains others n) → length list ≤ length others
no_more list others ascend all =
    fits (length others) (length list) (λ i k. get_or others k 0 ≡ get_or list i 0) each
    (λ i j k l m p q. one_place list ascend i j l m (sym p ∙ q))
  where
    each : (i : ℕ) → i < length list → (k : ℕ) × (k < length others) × (get_or others k 0 ≡ get_or list i 0)
    each i l =
        let there = all (get_or list i 0) (i, l, get_or_default list i (get_or list i 0) 0 l) in
        (there.0, there.1, get_or_default others there.0 0 (get_or list i 0) there.1 ∙ there.2)

-- the marked indices below i
pub record AreMarkedTo (most : ℕ) (marks : List Bool) (i : ℕ) (list : List ℕ) : Type 0 where
  pub ascend : DoAscend list
  pub few : length list ≤ most
  pub each : (n : ℕ) → Contains list n ↔ ((n < i) × (get_or marks n false ≡ true))

pub marked_none : (most : ℕ) (marks : List Bool) → AreMarkedTo most marks 0 []
marked_none most marks = record {
  ascend = λ i j l m. absurd (omega arith);
  few = omega arith;
  each = λ n. ((λ is. absurd (omega (arith, is.1))), (λ is. absurd (omega (arith, is.0))));
}

module _ (most : ℕ) (marks : List Bool) (i : ℕ) (list : List ℕ) (w : AreMarkedTo most marks i list) where
  pub marked_same : get_or marks i false ≡ false → AreMarkedTo most marks (i + 1) list
  marked_same unmarked = record { ascend = w.ascend; few = w.few; each = λ n. ((λ is. there n ((w.each n).0 is)), (λ is. back n is (cases_eq n i))) }
    where
      there : (n : ℕ) → (n < i) × (get_or marks n false ≡ true) → (n < i + 1) × (get_or marks n false ≡ true)
      there n (l, is) = (omega arith, is)

      back : (n : ℕ) → (n < i + 1) × (get_or marks n false ≡ true) → (n ≡ i) ⊎ (n ≢ i) → Contains list n
      back n (l, is) (inl same) = absurd (false≢true (sym unmarked ∙ (ap (λ z. get_or marks z false) (sym same) ∙ is)))
      back n (l, is) (inr other) = (w.each n).1 (omega arith, is)

  longer : length (list ++ i ∷ []) ≡ length list + 1
  longer = length-append list (i ∷ [])

  ascend_more : DoAscend (list ++ i ∷ [])
  ascend_more k j less l = go (cases_lt j (length list))
    where
      front : (n : ℕ) → n < length list → get_or (list ++ i ∷ []) n 0 ≡ get_or list n 0
      front n m = get_or_append_left list (i ∷ []) 0 n m

      low : (n : ℕ) → n < length list → get_or list n 0 < i
      low n m = ((w.each (get_or list n 0)).0 (n, m, get_or_default list n (get_or list n 0) 0 m)).0

      last : length list ≤ j → get_or (list ++ i ∷ []) j 0 ≡ i
      last m =
          let at : j ≡ length list = omega (arith, m, l, longer) in
          rw at (get_or-append_right list (i ∷ []) (length list) (length list) 0 refl (omega arith) ∙ zero_of (length list))
        where
          zero_of : (n : ℕ) → get_or (i ∷ []) (n - n) 0 ≡ i
          zero_of n = let none : n - n ≡ 0 = omega arith in rw none refl

      go : (j < length list) ⊎ (length list ≤ j) → get_or (list ++ i ∷ []) k 0 < get_or (list ++ i ∷ []) j 0
      go (inl m) = omega (arith, front k (omega arith), front j m, w.ascend k j less m)
      go (inr m) =
          let inside : k < length list = omega (arith, less, l, longer) in
          omega (arith, front k inside, last m, low k inside)

  each_more : get_or marks i false ≡ true → (n : ℕ) → Contains (list ++ i ∷ []) n ↔ ((n < i + 1) × (get_or marks n false ≡ true))
  each_more marked_here n = ((λ is. there (Contains-push_cases list i n is)), (λ is. back is (cases_eq n i)))
    where
      there : Contains list n ⊎ (i ≡ n) → (n < i + 1) × (get_or marks n false ≡ true)
      there (inl is) = let old = (w.each n).0 is in (omega (arith, old.0), old.1)
      there (inr same) = (omega arith, subst (λ (z : ℕ). get_or marks z false ≡ true) same marked_here)

      back : (n < i + 1) × (get_or marks n false ≡ true) → (n ≡ i) ⊎ (n ≢ i) → Contains (list ++ i ∷ []) n
      back (l, is) (inl same) = subst (Contains (list ++ i ∷ [])) (sym same) (Contains-push list i)
      back (l, is) (inr other) = Contains-append_left list (i ∷ []) n ((w.each n).1 (omega arith, is))

  pub marked_more : get_or marks i false ≡ true → length list < most → AreMarkedTo most marks (i + 1) (list ++ i ∷ [])
  marked_more marked_here room = record { ascend = ascend_more; few = omega (arith, longer, room); each = each_more marked_here }

  -- one more marked index is too many
  pub too_many : get_or marks i false ≡ true → i < length marks → most ≤ length list → AreFew most (IsMarked marks) → ⊥
  too_many marked_here inside full (others, few, all) =
      omega (
        arith,
        longer,
        full,
        few,
        no_more (list ++ i ∷ []) others ascend_more
            (λ n is. let marked = (each_more marked_here n).0 is in all n (omega (arith, marked.0, inside), marked.1)),
      )

pub marked_all : (most : ℕ) (marks : List Bool) (i : ℕ) (list : List ℕ) → i ≡ length marks → AreMarkedTo most marks i list
    → AreThose most (IsMarked marks) list
marked_all most marks i list all w = record {
  listed = record {
    ascend = w.ascend;
    each = λ n. ((λ is. let old = (w.each n).0 is in (omega (arith, old.0, all), old.1)), (λ is. (w.each n).1 (omega (arith, is.0, all), is.1)));
  };
  few = w.few;
}

-- a list within a limit is within one more
pub marked_further : (marks : List Bool) (i : ℕ) (list : List ℕ) → AreMarkedTo i marks i list → AreMarkedTo (i + 1) marks i list
marked_further marks i list w = record { ascend = w.ascend; few = omega (arith, w.few); each = w.each }

-- where one kind of numbers is few, a narrower kind is few too
pub few_same : (most : ℕ) (Is Other : ℕ → Type 0) → ((n : ℕ) → Other n → Is n) → AreFew most Is → AreFew most Other
few_same most Is Other back (list, few, all) = (list, few, λ n is. all n (back n is))

pub those_few : (most : ℕ) (Is : ℕ → Type 0) (list : List ℕ) → AreThose most Is list → AreFew most Is
those_few most Is list w = (list, w.few, λ n is. (w.listed.each n).1 is)

pub listed_same : (Is Other : ℕ → Type 0) (list : List ℕ) → ((n : ℕ) → Is n ↔ Other n) → AreListed Is list → AreListed Other list
listed_same Is Other list same w = record {
  ascend = w.ascend;
  each = λ n. ((λ is. (same n).0 ((w.each n).0 is)), (λ is. (w.each n).1 ((same n).1 is)));
}

pub those_same : (most : ℕ) (Is Other : ℕ → Type 0) (list : List ℕ) → ((n : ℕ) → Is n ↔ Other n) → AreThose most Is list → AreThose most Other list
those_same most Is Other list same w = record { listed = listed_same Is Other list same w.listed; few = w.few }

-- if all numbers that are meant have something, all numbers of the list have it
pub listed_all : (Is Has : ℕ → Type 0) (list : List ℕ) → AreListed Is list → ((n : ℕ) → Is n → Has n) → All Has list
listed_all Is Has list w has i d l = has (get_or list i d) ((w.each (get_or list i d)).0 (i, l, get_or_default list i (get_or list i d) d l))

pub listed_ascend : (Is : ℕ → Type 0) (list : List ℕ) → AreListed Is list → AllPairs (λ u v. u < v) list
listed_ascend Is list w i j d less l =
    omega (arith, get_or_default list i d 0 (omega (arith, less, l)), get_or_default list j d 0 l, w.ascend i j less l)

-- the keys that are marked
module _ (h : History) (order positions lasts : List ℕ) (stale : List Bool) (w : AreContradicted h order positions lasts stale) where
  marked_stale : (k : ℕ) → IsMarked stale k → IsStaleKey h k
  marked_stale k (l, is) = (w.of_key k (omega (arith, l, w.keys_long))).0 is

  stale_marked : (k : ℕ) → IsStaleKey h k → IsMarked stale k
  stale_marked k is = (omega (arith, is.0, w.keys_long), (w.of_key k is.0).1 is)

  pub stale_keys : (k : ℕ) → IsMarked stale k ↔ IsStaleKey h k
  stale_keys k = (marked_stale k, stale_marked k)
