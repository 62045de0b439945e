-- The needs of one number among needs that don't fall: between two partition points.
use Rattle.std.proofs.Common.{ℕ, ◌≡◌, ◌<◌, ◌≤◌, ◌+◌, ◌-◌, ◌++◌, ◌==◌, ◌⊎◌, inl, inr, append-nil, Bool, true, false, cond, List, [], ◌∷◌, length, length-drop, take, drop, refl, sym, ap, subst, ◌∙◌, arith}
use Rattle.std.specs.Prelude.{All, filter, nat_le, nat_lt, slice_index_or}
use Rattle.std.specs.List.Sorted.{IsPartitionPoint}
use Rattle.std.proofs.lemmas.Bool.{cases_lt, eq-eqb, leb-false, leb-true, ltb-false, ltb-true, ne_eqb}
use Rattle.std.proofs.lemmas.List.{get_or-drop, get_or-take, length-take-le, take-append-drop}
use Rattle.std.proofs.lemmas.List.Elements.{All-head, All-tail, filter-append}
use Rattle.tcc_slices.specs.private.Cutting.{own_needs}
use Rattle.tcc_slices.specs.declared.needs.Need.{Need}
use Rattle.tcc_slices.specs.declared.needs.Need.TheVariants as need

module _ {X : Type 0} (p : X → Bool) where
  none_pass : (xs : List X) → All (λ x. p x ≡ false) xs → filter p xs ≡ []
  none_pass [] none = refl
  none_pass (x ∷ xs) none =
      ap (λ (b : Bool). cond b (x ∷ filter p xs) (filter p xs)) (All-head (λ (z : X). p z ≡ false) x xs none)
      ∙ none_pass xs (All-tail (λ (z : X). p z ≡ false) x xs none)

  pub all_pass : (xs : List X) → All (λ x. p x ≡ true) xs → filter p xs ≡ xs
  all_pass [] all = refl
  all_pass (x ∷ xs) all =
      ap (λ (b : Bool). cond b (x ∷ filter p xs) (filter p xs)) (All-head (λ (z : X). p z ≡ true) x xs all)
      ∙ ap (λ (z : List X). x ∷ z) (all_pass xs (All-tail (λ (z : X). p z ≡ true) x xs all))

  -- the items from one index to before another are those that pass, where these alone do
  pub passing_range : (xs : List X) (start end : ℕ) → start ≤ end → end ≤ length xs → ((k : ℕ) (d : X) → k < start → p (slice_index_or xs k d) ≡ false)
      → ((k : ℕ) (d : X) → start ≤ k → k < end → p (slice_index_or xs k d) ≡ true)
      → ((k : ℕ) (d : X) → end ≤ k → k < length xs → p (slice_index_or xs k d) ≡ false) → take (end - start) (drop start xs) ≡ filter p xs
  passing_range xs start end low high before here behind =
      sym (ap (filter p) (sym (take-append-drop start xs)) ∙ filter-append p (take start xs) (drop start xs)
      ∙ ap (λ (z : List X). z ++ filter p (drop start xs)) (none_pass (take start xs) front)
      ∙ ap (filter p) (sym (take-append-drop (end - start) (drop start xs)))
      ∙ filter-append p (take (end - start) (drop start xs)) (drop (end - start) (drop start xs))
      ∙ ap (λ (z : List X). filter p (take (end - start) (drop start xs)) ++ z) (none_pass (drop (end - start) (drop start xs)) back)
      ∙ append-nil (filter p (take (end - start) (drop start xs))) ∙ all_pass (take (end - start) (drop start xs)) middle)
    where
      rest : length (drop start xs) ≡ length xs - start
      rest = length-drop start xs

      front : All (λ x. p x ≡ false) (take start xs)
      front k d inside =
          let below : k < start = omega (arith, inside, length-take-le start xs (omega (arith, low, high))) in
          subst (λ (z : X). p z ≡ false) (sym (get_or-take start xs k d below)) (before k d below)

      middle : All (λ x. p x ≡ true) (take (end - start) (drop start xs))
      middle k d inside =
          let below : k < end - start = omega (arith, inside, length-take-le (end - start) (drop start xs) (omega (arith, rest, low, high))) in
          subst (λ (z : X). p z ≡ true) (sym (get_or-take (end - start) (drop start xs) k d below ∙ get_or-drop start xs k d))
          (here (start + k) d (omega arith) (omega (arith, below, low)))

      back : All (λ x. p x ≡ false) (drop (end - start) (drop start xs))
      back k d inside =
          subst (λ (z : X). p z ≡ false) (sym (get_or-drop (end - start) (drop start xs) k d ∙ get_or-drop start xs (end - start + k) d))
          (behind (start + (end - start + k)) d (omega (arith, low))
          (omega (arith, inside, length-drop (end - start) (drop start xs), rest, low, high)))

-- the needs of a number are those between the points at which they reach and pass it
pub own_range : (needs : List (ℕ × Need)) (n start end : ℕ) → start ≤ length needs → end ≤ length needs
    → IsPartitionPoint (λ one. nat_lt one.0 n ≡ true) (λ one. nat_lt one.0 n ≡ false) needs start
    → IsPartitionPoint (λ one. nat_le one.0 n ≡ true) (λ one. nat_le one.0 n ≡ false) needs end
    → (start ≤ end) × (take (end - start) (drop start needs) ≡ own_needs needs n)
own_range needs n start end low high from to = (order, passing_range (λ one. one.0 == n) needs start end order high before here behind)
  where
    order : start ≤ end
    order = go (cases_lt end start)
      where
        go : (end < start) ⊎ (start ≤ end) → start ≤ end
        go (inr order) = order
        go (inl less) =
            let one : ℕ × Need = slice_index_or needs end (0, need.There) in
            let under = ltb-true one.0 n (from.0 end (0, need.There) (omega arith) less) in
            let over = leb-false one.0 n (to.1 end (0, need.There) (omega arith) (omega (arith, less, low))) in
            absurd (omega (arith, under, over))

    before : (k : ℕ) (d : ℕ × Need) → k < start → ((slice_index_or needs k d).0 == n) ≡ false
    before k d less =
        let under = ltb-true (slice_index_or needs k d).0 n (from.0 k d (omega arith) less) in
        ne_eqb (slice_index_or needs k d).0 n (λ same. absurd (omega (arith, same, under)))

    here : (k : ℕ) (d : ℕ × Need) → start ≤ k → k < end → ((slice_index_or needs k d).0 == n) ≡ true
    here k d above below =
        let least = ltb-false (slice_index_or needs k d).0 n (from.1 k d above (omega (arith, below, high))) in
        let most = leb-true (slice_index_or needs k d).0 n (to.0 k d (omega arith) below) in
        eq-eqb (slice_index_or needs k d).0 n (omega (arith, least, most))

    behind : (k : ℕ) (d : ℕ × Need) → end ≤ k → k < length needs → ((slice_index_or needs k d).0 == n) ≡ false
    behind k d above inside =
        let over = leb-false (slice_index_or needs k d).0 n (to.1 k d above inside) in
        ne_eqb (slice_index_or needs k d).0 n (λ same. absurd (omega (arith, same, over)))
