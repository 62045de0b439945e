-- The first of ascending numbers within bounds, from the end of those below the lower bound; and the writers of a key.
use Rattle.std.proofs.Common.{ℕ, ◌<◌, ◌≤◌, ◌≡◌, ◌⊎◌, inl, inr, Bool, true, false, List, length, get_or, refl, subst, ◌∙◌, arith}
use Rattle.std.specs.Prelude.{Some, None, nat_lt}
use Rattle.std.specs.List.{Contains}
use Rattle.std.specs.List.Sorted.{IsNonDecreasing, IsPartitionPoint}
use Rattle.std.proofs.lemmas.Bool.{cases_lt, ltb-true, ltb-false}
use Rattle.std.proofs.lemmas.List.{get_or_default}
use Rattle.std.proofs.lemmas.List.Elements.{Contains-get_or}
use Rattle.tcc_reads.specs.History.{History}
use Rattle.tcc_graph.specs.Keys.{is_key, writes, writers}
use Rattle.tcc_graph.proofs.Ascending.{filtered_sorted}
use Rattle.tcc_least.specs.private.Returns.{IsFirstWithin}
use Rattle.tcc_least.proofs.Listed.{ascending}

module _ (ns : List ℕ) (low i : ℕ) (rising : IsNonDecreasing ns) (point : IsPartitionPoint (λ n. nat_lt n low ≡ true) (λ n. nat_lt n low ≡ false) ns i)
    (bound : i ≤ length ns) where
  -- a number of the list that isn't below the lower bound is at an index from i on
  there : (n : ℕ) → Contains ns n → low ≤ n → (k : ℕ) × (i ≤ k) × (k < length ns) × (get_or ns k 0 ≡ n)
  there n (k, inside, is) from = (k, past (cases_lt k i), inside, at)
    where
      at : get_or ns k 0 ≡ n
      at = get_or_default ns k 0 n inside ∙ is

      past : (k < i) ⊎ (i ≤ k) → i ≤ k
      past (inr more) = more
      past (inl less) = let l : get_or ns k 0 < low = ltb-true (get_or ns k 0) low (point.0 k 0 (omega arith) less) in absurd (omega (arith, l, from, at))

  pub none_past : (high : ℕ) → length ns ≤ i → IsFirstWithin ns low high None
  none_past high all n in-list from = let w = there n in-list from in absurd (omega (arith, all, w.1, w.2))

  pub none_under : (high : ℕ) → i < length ns → high ≤ get_or ns i 0 → IsFirstWithin ns low high None
  none_under high inside much n in-list from = let w = there n in-list from in let up : get_or ns i 0 ≤ get_or ns w.0 0 = rising i w.0 0 w.1 w.2 in omega (arith, much, up, w.3)

  pub first_past : (high : ℕ) → i < length ns → get_or ns i 0 < high → IsFirstWithin ns low high (Some (get_or ns i 0))
  first_past high inside few = (
    Contains-get_or ns i 0 inside,
    ltb-false (get_or ns i 0) low (point.1 i 0 (omega arith) inside),
    few,
    λ m in-list from. let w = there m in-list from in subst (λ (z : ℕ). get_or ns i 0 ≤ z) w.3 (rising i w.0 0 w.1 w.2),
  )

pub writers_rise : (h : History) (x : List ℕ) → IsNonDecreasing (writers h x)
writers_rise h x = go (is_key h x) refl
  where
    go : (b : Bool) → is_key h x ≡ b → IsNonDecreasing (writers h x)
    go true key = rw key (ascending _ (filtered_sorted (λ b. writes h b x) _))
    go false none = rw none (λ i j d low inside. absurd (omega (arith, inside)))
