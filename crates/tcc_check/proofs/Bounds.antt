-- Rows of weights, lowered.
use Rattle.std.proofs.Common.{◌≡◌, ◌<◌, ◌≤◌, ℕ, ◌⊎◌, inl, inr, List, length, get_or, arith, sym, subst, ◌∙◌}
use Rattle.tcc_check.specs.private.Weights.{unlinked, IsLeastRow, IsLowered}

pub lowered_row : (P Q : ℕ → ℕ → Type 0) (old new : List ℕ) → IsLeastRow P old → IsLowered Q old new → IsLeastRow (λ u w. P u w ⊎ Q u w) new
lowered_row P Q old new was h = record {
  low = λ u w l e. low u w (omega (arith, h.long)) e;
  from = λ u l. from u (h.from u (omega (arith, h.long))) (was.from u (omega (arith, h.long)));
}
  where
    low : (u w : ℕ) → u < length old → P u w ⊎ Q u w → get_or new u 0 ≤ w
    low u w l (inl p) = omega (arith, was.low u w l p, h.kept u l)
    low u w l (inr q) = h.low u w l q

    from : (u : ℕ) → (get_or new u 0 ≡ get_or old u 0) ⊎ Q u (get_or new u 0) → (get_or old u 0 ≡ unlinked) ⊎ P u (get_or old u 0)
        → (get_or new u 0 ≡ unlinked) ⊎ (P u (get_or new u 0) ⊎ Q u (get_or new u 0))
    from u (inr q) older = inr (inr q)
    from u (inl same) (inl none) = inl (same ∙ none)
    from u (inl same) (inr p) = inr (inl (subst (λ z. P u z) (sym same) p))
