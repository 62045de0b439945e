-- Gaps of a row of clocks, as far as they are made.
use Rattle.std.proofs.Common.{◌≡◌, ◌<◌, ◌+◌, ◌↔◌, ℕ, ◌⊎◌, inl, inr, List, [], ◌∷◌, ◌++◌, length, get_or, arith, refl, sym, ap, subst, ◌∙◌}
use Rattle.std.proofs.lemmas.Bool.{cases_eq}
use Rattle.std.proofs.lemmas.List.{get_or_append_left, get_or_push, length_push}
use Rattle.tcc_reads.specs.History.{History}
use Rattle.tcc_graph.specs.declared.level.Level.{Level}
use Rattle.tcc_cert.specs.OrderRules.{MayReach}

-- the first gaps of a row
pub record IsGapRowTo (i : ℕ) (h : History) (level : Level) (clocks : List (List ℕ)) (b : ℕ) (row : List ℕ) : Type 0 where
  pub long : length row ≡ i
  pub none : (c : ℕ) → c < i → (get_or row c 0 ≡ 0) ↔ MayReach h level clocks b c

pub no_gap : (h : History) (level : Level) (clocks : List (List ℕ)) (b : ℕ) → IsGapRowTo 0 h level clocks b []
no_gap h level clocks b = record { long = refl; none = λ c l. absurd (omega arith) }

pub one_more_gap : (i : ℕ) (h : History) (level : Level) (clocks : List (List ℕ)) (b : ℕ) (row : List ℕ) (g : ℕ) → ((g ≡ 0) ↔ MayReach h level clocks b i)
    → IsGapRowTo i h level clocks b row → IsGapRowTo (i + 1) h level clocks b (row ++ g ∷ [])
one_more_gap i h level clocks b row g is w = record {
  long = length_push row g ∙ ap (λ k. k + 1) w.long;
  none = λ c l. none c l (cases_eq c i);
}
  where
    none : (c : ℕ) → c < i + 1 → (c ≡ i) ⊎ (c ≡ i → ⊥) → (get_or (row ++ g ∷ []) c 0 ≡ 0) ↔ MayReach h level clocks b c
    none c l (inl same) = rw (get_or_push row g 0 c (w.long ∙ sym same)) (subst (λ (z : ℕ). (g ≡ 0) ↔ MayReach h level clocks b z) (sym same) is)
    none c l (inr apart) = rw (get_or_append_left row (g ∷ []) 0 c (omega (arith, w.long))) (w.none c (omega arith))
