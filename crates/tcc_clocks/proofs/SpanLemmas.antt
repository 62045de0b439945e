-- The writers of a block of sessions are adjacent among all writers of a key, since these ascend.
use Rattle.std.proofs.Common.{◌≡◌, ◌<◌, ◌≤◌, ◌+◌, ◌-◌, ◌⊎◌, inl, inr, ℕ, zero, suc, true, false, List, [], ◌∷◌, ◌++◌, length, length-append, get_or, take, drop, refl, sym, subst, ◌∙◌, arith}
use Rattle.std.specs.Prelude.{nat_lt}
use Rattle.std.specs.List.{All, Contains}
use Rattle.std.specs.List.Sorted.{IsNonDecreasing, IsPartitionPoint}
use Rattle.std.proofs.lemmas.Bool.{cases_lt, cases_Bool, ltb-true, lt-ltb, false≢true}
use Rattle.std.proofs.lemmas.List.{get_or_default, get_or-take, get_or-drop, get_or_append_left, get_or_at, length-take-le, length-drop}
use Rattle.std.proofs.lemmas.List.Elements.{All-weaker, All-contains, All-contains_itself}
use Rattle.std.proofs.lemmas.List.Sorted.{IsNonDecreasingBy-from_default, IsNonDecreasingBy-short}
use Rattle.std.proofs.lemmas.List.FromFn.{length-range_with_len, get_or-range_with_len}
use Rattle.std.proofs.lemmas.List.Kept.{IsNonDecreasingBy-filter}
use Rattle.tcc_reads.specs.History.{History, IsBySession, count}
use Rattle.tcc_graph.specs.Keys.{key_at, writers, writes, numbers, is_key}
use Rattle.tcc_clocks.specs.Clocks.{AreOwners}
use Rattle.tcc_clocks.specs.Spans.{IsCountBelow, IsSpan, AreSpans, AreBounds}
use Rattle.tcc_clocks.specs.private.Between.{IsBetween}
use Rattle.tcc_clocks.specs.declared.latest.TheConstants.{WIDE}

numbers_rise : (h : History) → IsNonDecreasing (numbers h)
numbers_rise h = IsNonDecreasingBy-from_default (λ n. n) (numbers h) 0 (λ i j upto below. go i j upto below)
  where
    go : (i j : ℕ) → i ≤ j → j < length (numbers h) → get_or (numbers h) i 0 ≤ get_or (numbers h) j 0
    go i j upto below =
        let all : length (numbers h) ≡ count h = length-range_with_len 0 (count h) in
        omega (
          arith,
          upto,
          get_or-range_with_len 0 (count h) i 0 (omega (arith, upto, below, all)),
          get_or-range_with_len 0 (count h) j 0 (omega (arith, below, all)),
        )

pub writers_rise : (h : History) (x : List ℕ) → IsNonDecreasing (writers h x)
writers_rise h x = go (cases_Bool (is_key h x))
  where
    go : (is_key h x ≡ true) ⊎ (is_key h x ≡ false) → IsNonDecreasing (writers h x)
    go (inl t) = rw t (IsNonDecreasingBy-filter (λ n. n) (λ b. writes h b x) (numbers h) (numbers_rise h))
    go (inr f) = rw f (IsNonDecreasingBy-short (λ (n : ℕ). n) [] (omega arith))

pub counted : (xs : List ℕ) (bound end : ℕ) → end ≤ length xs → IsPartitionPoint (λ b. nat_lt b bound ≡ true) (λ b. nat_lt b bound ≡ false) xs end
    → IsCountBelow xs bound end
counted xs bound end within point = record {
  within = within;
  less = λ k l. ltb-true (get_or xs k 0) bound (point.0 k 0 (omega arith) l);
  others = λ k l small. go k l small (cases_lt k end);
}
  where
    go : (k : ℕ) → k < length xs → get_or xs k 0 < bound → (k < end) ⊎ (end ≤ k) → k < end
    go k l small (inl less) = less
    go k l small (inr more) = absurd (false≢true (sym (point.1 k 0 more l) ∙ lt-ltb (get_or xs k 0) bound small))

module _ (xs : List ℕ) (rising : IsNonDecreasing xs) (low high start end : ℕ) (first : IsCountBelow xs low start) (last : IsCountBelow xs high end) where
  -- the index of a writer within the bounds
  index_of : (b : ℕ) → Contains xs b → low ≤ b → b < high → (k : ℕ) × (start ≤ k) × (k < end) × (k < length xs) × (get_or xs k 0 ≡ b)
  index_of b (k, l, e) above below = (k, go (cases_lt k start), last.others k l (omega (arith, at, below)), l, at)
    where
      at : get_or xs k 0 ≡ b
      at = get_or_default xs k 0 b l ∙ e

      go : (k < start) ⊎ (start ≤ k) → start ≤ k
      go (inl less) = absurd (omega (arith, first.less k less, at, above))
      go (inr more) = more

  pub none_between : end ≤ start → IsBetween xs low high []
  none_between none = record {
    among = λ b w. absurd (omega (arith, w.1));
    all = λ b there above below. let w = index_of b there above below in absurd (omega (arith, w.1, w.2, none));
    rising = IsNonDecreasingBy-short (λ (n : ℕ). n) [] (omega arith);
  }

  module _ (some : start < end) where
    part : List ℕ
    part = take (end - start) (drop start xs)

    long : length (take (end - start) (drop start xs)) ≡ end - start
    long = length-take-le (end - start) (drop start xs) (omega (arith, length-drop start xs, last.within))

    at : (k : ℕ) (d : ℕ) → k < end - start → get_or (take (end - start) (drop start xs)) k d ≡ get_or xs (start + k) d
    at k d l = get_or-take (end - start) (drop start xs) k d l ∙ get_or-drop start xs k d

    pub some_between : IsBetween xs low high (take (end - start) (drop start xs))
    some_between = record {
      among = λ b w. let l : w.0 < end - start = omega (arith, w.1, long) in (start + w.0, omega (arith, l, last.within), sym (at w.0 b l) ∙ w.2);
      all = all;
      rising = λ i j d upto below. let l : j < end - start = omega (arith, below, long) in
          omega (
            arith,
            at i d (omega (arith, upto, l)),
            at j d l,
            rising (start + i) (start + j) d (omega (arith, upto)) (omega (arith, l, last.within)),
          );
    }
      where
        all : (b : ℕ) → Contains xs b → low ≤ b → b < high → Contains (take (end - start) (drop start xs)) b
        all b there above below =
            let w = index_of b there above below in
            let k : ℕ = w.0 - start in
            let l : w.0 - start < end - start = omega (arith, w.1, w.2) in
            let back : start + (w.0 - start) ≡ w.0 = omega (arith, w.1) in
            (w.0 - start, omega (arith, l, long), at (w.0 - start) b l ∙ (rw back (get_or_default xs w.0 b 0 w.3 ∙ w.4)))

-- the writers from the first index of the span to its end
pub between_span : (xs : List ℕ) → IsNonDecreasing xs → (low high start end : ℕ) → IsSpan xs low high start end
    → IsBetween xs low high (take (end - start) (drop start xs))
between_span xs rising low high start end span = go (cases_lt start end)
  where
    nothing : (n : ℕ) → n ≡ 0 → take n (drop start xs) ≡ []
    nothing n none = rw none refl

    go : (start < end) ⊎ (end ≤ start) → IsBetween xs low high (take (end - start) (drop start xs))
    go (inl some) = some_between xs rising low high start end span.first span.last some
    go (inr none) =
        subst (λ (part : List ℕ). IsBetween xs low high part) (sym (nothing (end - start) (omega (arith, none))))
        (none_between xs rising low high start end span.first span.last none)

pub spans_more : (h : History) (low high : ℕ) (spans : List (ℕ × ℕ)) (n : ℕ) (span : ℕ × ℕ) → AreSpans h low high spans n
    → IsSpan (writers h (key_at h n)) low high span.0 span.1 → AreSpans h low high (spans ++ span ∷ []) (n + 1)
spans_more h low high spans n span are one = record {
  long = omega (arith, length-append spans (span ∷ []), are.long);
  each = λ key_index l. go key_index l (cases_lt key_index n);
}
  where
    go : (key_index : ℕ) → key_index < n + 1 → (key_index < n) ⊎ (n ≤ key_index)
        → IsSpan (writers h (key_at h key_index)) low high (get_or (spans ++ span ∷ []) key_index (0, 0)).0 (get_or (spans ++ span ∷ []) key_index (0, 0)).1
    go key_index l (inl early) = rw (get_or_append_left spans (span ∷ []) (0, 0) key_index (omega (arith, early, are.long))) (are.each key_index early)
    go key_index l (inr late) =
        let here : length spans ≡ key_index = omega (arith, l, late, are.long) in
        let at : key_index ≡ n = omega (arith, l, late) in
        rw (get_or_at spans span [] (0, 0) key_index here, at) one

pub all_between : (P : ℕ → Type 0) (xs : List ℕ) (low high : ℕ) (part : List ℕ) → IsBetween xs low high part → All P xs → All P part
all_between P xs low high part are all =
    All-weaker (Contains part) P (λ b there. All-contains P xs b all (are.among b there)) part (All-contains_itself part)

pub bounded : (owners : List ℕ) (from low high : ℕ) → IsCountBelow owners from low → IsCountBelow owners (from + WIDE) high → AreBounds owners from low high
bounded owners from low high first last b below above less = (go (cases_lt b low), last.others b below less)
  where
    go : (b < low) ⊎ (low ≤ b) → low ≤ b
    go (inl early) = absurd (omega (arith, first.less b early, above))
    go (inr late) = late

pub owners_rise : (h : History) → IsBySession h.entries → (owners : List ℕ) → AreOwners h owners → IsNonDecreasing owners
owners_rise h numbered owners known = IsNonDecreasingBy-from_default (λ n. n) owners 0 go
  where
    go : (i j : ℕ) → i ≤ j → j < length owners → get_or owners i 0 ≤ get_or owners j 0
    go zero j upto below = omega (arith, known.init)
    go (suc i) j upto below = by (cases_lt (suc i) j)
      where
        by : (suc i < j) ⊎ (j ≤ suc i) → get_or owners (suc i) 0 ≤ get_or owners j 0
        by (inl less) =
            omega (
              arith,
              (numbered (suc i) j less (omega (arith, below, known.long))).0,
              known.each (suc i) (omega arith) (omega (arith, less, below, known.long)),
              known.each j (omega (arith, less)) (omega (arith, below, known.long)),
            )
        by (inr same) = let e : suc i ≡ j = omega (arith, upto, same) in rw e (omega arith)
