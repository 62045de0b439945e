-- Among readers, each beside its source, those of one source are adjacent, and ascend.
use Rattle.std.proofs.Common.{ℕ, ◌+◌, ◌-◌, ◌<◌, ◌≤◌, ◌≡◌, ◌⊎◌, inl, inr, Bool, true, false, List, length, length-drop, take, drop, get_or, sym, ap, subst, ◌∙◌, arith}
use Rattle.std.specs.Prelude.{◌≢◌, ◌↔◌, Option, Some, None, IsTrue, zip, nat_lt, nat_le}
use Rattle.std.specs.Option.{is_some}
use Rattle.std.specs.List.{Contains}
use Rattle.std.specs.List.Sorted.{IsNonDecreasing, IsPartitionPoint}
use Rattle.std.specs.Ordering.{nat_cmp, ordering_then}
use Rattle.std.specs.Cmp.{nat_cmp_is}
use Rattle.std.specs.declared.cmp.Ordering.TheVariants.{Less, Equal, Greater}
use Rattle.std.proofs.lemmas.Bool.{cases_lt, false≢true, ltb-true, ltb-false, leb-true, leb-false}
use Rattle.std.proofs.lemmas.List.{get_or-drop, get_or-take, get_or_default, length-take-le}
use Rattle.std.proofs.lemmas.List.Sorted.{IsNonDecreasingBy-from_default}
use Rattle.std.proofs.lemmas.Map.Keys.{Less-from_sorted}
use Rattle.std.proofs.lemmas.Slice.Zip.{get_or-zip, length-zip}
use Rattle.tcc_graph.specs.Relations.{by_number, AreInOrder}
use Rattle.tcc_least.specs.private.Returns.{IsFirstWithin}
use Rattle.tcc_least.proofs.Listed.{pair_at, at_pair}

by_second : (p q : ℕ × ℕ) → by_number nat_cmp p q ≡ Less → p.0 ≡ q.0 → p.1 ≤ q.1
by_second p q less same = go (cases_lt q.1 p.1)
  where
    apart : Greater ≡ Less → ⊥
    apart e = cc

    go : (q.1 < p.1) ⊎ (p.1 ≤ q.1) → p.1 ≤ q.1
    go (inr up) = up
    go (inl down) =
        absurd (apart (
        nat_cmp_is p.1 q.1 Greater down ∙ ap (λ o. ordering_then o (nat_cmp p.1 q.1)) (nat_cmp_is p.0 q.0 Equal same) ∙ less))

module _ (sources readers : List ℕ) (a start stop : ℕ) (long : length sources ≡ length readers) (order : AreInOrder nat_cmp sources readers)
    (low : start ≤ length sources) (high : stop ≤ length sources)
    (lows : IsPartitionPoint (λ n. nat_lt n a ≡ true) (λ n. nat_lt n a ≡ false) sources start)
    (highs : IsPartitionPoint (λ n. nat_le n a ≡ true) (λ n. nat_le n a ≡ false) sources stop) where
  abbrev pub group : List ℕ
  group = take (stop - start) (drop start readers)

  pub start_stop : start ≤ stop
  start_stop = go (cases_lt stop start)
    where
      go : (stop < start) ⊎ (start ≤ stop) → start ≤ stop
      go (inr up) = up
      go (inl down) =
          let l : get_or sources stop 0 < a = ltb-true (get_or sources stop 0) a (lows.0 stop 0 (omega arith) down) in
          let m : a < get_or sources stop 0 = leb-false (get_or sources stop 0) a (highs.1 stop 0 (omega arith) (omega arith)) in
          absurd (omega arith)

  group-length : length group ≡ stop - start
  group-length = length-take-le (stop - start) (drop start readers) (omega (arith, length-drop start readers, long, high))

  group-at : (i : ℕ) → i < stop - start → get_or group i 0 ≡ get_or readers (start + i) 0
  group-at i inside = get_or-take (stop - start) (drop start readers) i 0 inside ∙ get_or-drop start readers i 0

  of_source : (k : ℕ) → start ≤ k → k < stop → get_or sources k 0 ≡ a
  of_source k from to =
      let l : a ≤ get_or sources k 0 = ltb-false (get_or sources k 0) a (lows.1 k 0 from (omega (arith, high))) in
      let m : get_or sources k 0 ≤ a = leb-true (get_or sources k 0) a (highs.0 k 0 (omega arith) to) in
      omega arith

  within : (k : ℕ) → k < length sources → get_or sources k 0 ≡ a → (start ≤ k) × (k < stop)
  within k inside is = (left (cases_lt k start), right (cases_lt k stop))
    where
      left : (k < start) ⊎ (start ≤ k) → start ≤ k
      left (inr up) = up
      left (inl down) = let l : get_or sources k 0 < a = ltb-true (get_or sources k 0) a (lows.0 k 0 (omega arith) down) in absurd (omega (arith, l, is))

      right : (k < stop) ⊎ (stop ≤ k) → k < stop
      right (inl down) = down
      right (inr up) = let l : a < get_or sources k 0 = leb-false (get_or sources k 0) a (highs.1 k 0 up inside) in absurd (omega (arith, l, is))

  pub group_rises : IsNonDecreasing group
  group_rises = IsNonDecreasingBy-from_default (λ n. n) group 0 (λ i j below inside. go i j below inside (cases_lt i j))
    where
      pair : ℕ → ℕ × ℕ
      pair k = get_or (zip sources readers) k (0, 0)

      pair-is : (k : ℕ) → k < length sources → (let p : ℕ × ℕ = (get_or sources k 0, get_or readers k 0) in pair k ≡ p)
      pair-is k inside = get_or-zip sources readers k (0, 0) inside (omega (arith, long))

      go : (i j : ℕ) → i ≤ j → j < length group → (i < j) ⊎ (j ≤ i) → get_or group i 0 ≤ get_or group j 0
      go i j below inside (inr up) = let same : i ≡ j = omega arith in rw same (omega arith)
      go i j below inside (inl less) =
          let bound : j < stop - start = omega (arith, group-length) in
          let one : start + i < stop = omega arith in
          let two : start + j < stop = omega arith in
          let first = pair-is (start + i) (omega (arith, high)) in
          let second = pair-is (start + j) (omega (arith, high)) in
          let ordered = Less-from_sorted (by_number nat_cmp) (zip sources readers) (start + i) (start + j) (0, 0) order (omega arith)
          (omega (arith, length-zip sources readers, long, high)) in
          let up : (pair (start + i)).1 ≤ (pair (start + j)).1
          = by_second (pair (start + i)) (pair (start + j)) ordered
          (ap (λ (p : ℕ × ℕ). p.0) first ∙ of_source (start + i) (omega arith) one
          ∙ sym (of_source (start + j) (omega arith) two) ∙ sym (ap (λ (p : ℕ × ℕ). p.0) second)) in
          let l = group-at i (omega arith) in
          let m = group-at j bound in
          omega (arith, up, l, m, ap (λ (p : ℕ × ℕ). p.1) first, ap (λ (p : ℕ × ℕ). p.1) second)

  pub in_group : (c : ℕ) → Contains (zip sources readers) (a, c) → Contains group c
  in_group c there =
      let w = at_pair sources readers 0 long a c there in
      let l = within w.0 w.1 w.2 in
      let i : w.0 - start < stop - start = omega (arith, l.0, l.1) in
      let sum : start + (w.0 - start) ≡ w.0 = omega (arith, l.0) in (
        w.0 - start,
        omega (arith, i, group-length),
        get_or_default group (w.0 - start) c 0 (omega (arith, i, group-length))
            ∙ group-at (w.0 - start) i ∙ ap (λ (z : ℕ). get_or readers z 0) sum ∙ w.3,
      )

  pub from_group : (c : ℕ) → Contains group c → Contains (zip sources readers) (a, c)
  from_group c (i, inside, is) =
      let bound : i < stop - start = omega (arith, group-length) in
      let value : get_or readers (start + i) 0 ≡ c = sym (group-at i bound) ∙ get_or_default group i 0 c inside ∙ is in
      let source : get_or sources (start + i) 0 ≡ a = of_source (start + i) (omega arith) (omega arith) in
      let there = pair_at sources readers 0 long (start + i) (omega (arith, high)) in
      subst (λ (z : ℕ). Contains (zip sources readers) (z, c)) source
      (subst (λ (z : ℕ). Contains (zip sources readers) (get_or sources (start + i) 0, z)) value there)

  -- whether one of the group is within bounds
  pub group_within : (b end : ℕ) → (b ≡ a → ⊥) → (found : Option ℕ) → IsFirstWithin group (b + 1) end found → (r : Bool) → r ≡ is_some found
      → IsTrue r ↔ ((b ≢ a) × ((c : ℕ) × Contains (zip sources readers) (a, c) × (b < c) × (c < end)))
  group_within b end other None none r is = (
    (λ e. absurd (false≢true (sym is ∙ e))),
    (λ (o, (c, there, past, below)). absurd (omega (arith, below, none c (in_group c there) (omega (arith, past))))),
  )
  group_within b end other (Some c) (there, past, below, least) r is = ((λ e. (other, (c, from_group c there, omega (arith, past), below))), (λ w. is))
