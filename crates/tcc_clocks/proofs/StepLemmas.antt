-- The transactions right before each one of an order, in one list.
use Rattle.std.proofs.Common.{◌≡◌, ◌<◌, ◌≤◌, ◌+◌, ◌-◌, ◌⊎◌, inl, inr, ℕ, List, [], ◌∷◌, ◌++◌, length, length-append, get_or, take, drop, slice_index, ap, ◌∙◌, arith}
use Rattle.std.proofs.lemmas.Bool.{cases_lt}
use Rattle.std.proofs.lemmas.List.{get_or_append_left, get_or_at, take_all, take-append-le, drop-append-le, length-drop}
use Rattle.std.proofs.Math.Seq.{drop-append_seam}
use Rattle.tcc_reads.specs.History.{History}
use Rattle.tcc_clocks.specs.Parents.{parents, HasSourcesAt, AreParentsAt, AreSteps}

-- a step stays when numbers are appended
still_step : (h : History) (c : ℕ) (numbers more : List ℕ) (start end : ℕ) → AreParentsAt h c numbers start end → AreParentsAt h c (numbers ++ more) start end
still_step h c numbers more start end is = record {
  order = is.order;
  within = omega (arith, is.within, length-append numbers more);
  is = ap (λ (xs : List ℕ). take (end - start) xs) (drop-append-le start numbers more (omega (arith, is.order, is.within)))
      ∙ (take-append-le (end - start) (drop start numbers) more (omega (arith, is.within, is.order, length-drop start numbers)) ∙ is.is);
  sources = is.sources;
}

-- the step of one more transaction
last_step : (h : History) (c : ℕ) (numbers more : List ℕ) → more ≡ parents h c → HasSourcesAt h c → AreParentsAt h c (numbers ++ more) (length numbers) (length (numbers ++ more))
last_step h c numbers more are sources = record {
  order = omega (arith, length-append numbers more);
  within = omega arith;
  is = ap (λ (xs : List ℕ). take (length (numbers ++ more) - length numbers) xs) (drop-append_seam numbers more)
      ∙ (take_all (length (numbers ++ more) - length numbers) more (omega (arith, length-append numbers more)) ∙ are);
  sources = sources;
}

pub steps_more : (h : History) (order : List ℕ) (spans : List (ℕ × ℕ)) (numbers more : List ℕ) (n : ℕ) → AreSteps h order spans numbers n
    → more ≡ parents h (slice_index order n) → HasSourcesAt h (slice_index order n)
    → AreSteps h order (spans ++ (length numbers, length (numbers ++ more)) ∷ []) (numbers ++ more) (n + 1)
steps_more h order spans numbers more n steps are sources = record {
  long = omega (arith, length-append spans ((length numbers, length (numbers ++ more)) ∷ []), steps.long);
  each = λ k l. go k l (cases_lt k n);
}
  where
    span : ℕ × ℕ
    span = (length numbers, length (numbers ++ more))

    go : (k : ℕ) → k < n + 1 → (k < n) ⊎ (n ≤ k)
        → AreParentsAt h (slice_index order k) (numbers ++ more) (get_or (spans ++ (length numbers, length (numbers ++ more)) ∷ []) k (0, 0)).0
        (get_or (spans ++ (length numbers, length (numbers ++ more)) ∷ []) k (0, 0)).1
    go k l (inl early) =
        rw (get_or_append_left spans ((length numbers, length (numbers ++ more)) ∷ []) (0, 0) k (omega (arith, early, steps.long)))
        (still_step h (slice_index order k) numbers more (get_or spans k (0, 0)).0 (get_or spans k (0, 0)).1 (steps.each k early))
    go k l (inr late) =
        let here : length spans ≡ k = omega (arith, l, late, steps.long) in
        let at : k ≡ n = omega (arith, l, late) in
        rw (get_or_at spans (length numbers, length (numbers ++ more)) [] (0, 0) k here, at) (last_step h (slice_index order n) numbers more are sources)
