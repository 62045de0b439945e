-- What the rules on a claim of a cycle say.
use Rattle.std.proofs.Common.{◌≡◌, ◌<◌, ◌≤◌, ◌⊎◌, inl, inr, ℕ, sym, subst, arith}
use Rattle.std.specs.Prelude.{min}
use Rattle.tcc_reads.specs.History.{History}
use Rattle.tcc_graph.specs.Levels.{judged}
use Rattle.tcc_graph.specs.declared.level.Level.TheVariants.{Causal}
use Rattle.tcc_cert.specs.Tables.{IsFirstAt, IsEarlier}
use Rattle.tcc_least.specs.Shapes.{IsFirstPlace, IsRound, IsReturn, NoneBelow}
use Rattle.tcc_least.proofs.Shapes.{below_none}
use Rattle.tcc_judge.specs.Cycles.{BreaksRound, BreaksReturn}

-- the first place, as the first pair of numbers
first_place : (P : ℕ → ℕ → Type 0) (Q : ℕ × ℕ → Type 0) (m n : ℕ) → (P m n → Q (m, n)) → ((at : ℕ × ℕ) → Q at → P at.0 at.1) → IsFirstPlace P m n
    → IsFirstAt Q (m, n)
first_place P Q m n there back w = record { here = there w.here; first = λ earlier less is. go earlier less (w.first earlier.0 earlier.1 (back earlier is)) }
  where
    go : (earlier : ℕ × ℕ) → IsEarlier earlier (m, n) → (m < earlier.0) ⊎ ((m ≡ earlier.0) × (n ≤ earlier.1)) → ⊥
    go earlier (inl less) (inl more) = omega (arith, less, more)
    go earlier (inl less) (inr both) = omega (arith, less, both.0)
    go earlier (inr less) (inl more) = omega (arith, less.0, more)
    go earlier (inr less) (inr both) = omega (arith, less.1, both.1)

module _ (h : History) (most : ℕ) (low : most ≤ 4) where
  same : min most 4 ≡ most
  same = omega arith

  pub first_round : (a c : ℕ) → IsFirstPlace (IsRound h (min most 4)) a c → IsFirstAt (BreaksRound h most) (a, c)
  first_round a c w =
      first_place (IsRound h (min most 4)) (BreaksRound h most) a c (λ is. (low, subst (λ (n : ℕ). IsRound h n a c) same is))
      (λ at is. subst (λ (n : ℕ). IsRound h n at.0 at.1) (sym same) is.1) w

  pub no_round : ((c d : ℕ) → IsRound h (min most 4) c d → ⊥) → (at : ℕ × ℕ) → BreaksRound h most at → ⊥
  no_round none at is = none at.0 at.1 (subst (λ (n : ℕ). IsRound h n at.0 at.1) (sym same) is.1)

  pub first_return : (b a : ℕ) → 3 < min most 4 → IsFirstPlace (IsReturn h) b a → IsFirstAt (BreaksReturn h most) (b, a)
  first_return b a four w = first_place (IsReturn h) (BreaksReturn h most) b a (λ is. (omega (arith, four), is)) (λ at is. is.1) w

  -- where no cycle costs less there is no such round
  pub none_round : NoneBelow (judged h Causal) (min most 4) → (at : ℕ × ℕ) → BreaksRound h most at → ⊥
  none_round none = no_round (λ c d round. below_none (judged h Causal) (min most 4) (inl (c, d, round)) none)

  pub none_return : NoneBelow (judged h Causal) (min most 4) → (at : ℕ × ℕ) → BreaksReturn h most at → ⊥
  none_return none at is = below_none (judged h Causal) (min most 4) (inr (omega (arith, is.0), (at.0, at.1, is.1))) none
