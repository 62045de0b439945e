-- What is found stays found.
use Rattle.std.proofs.Common.{ℕ, ◌≡◌, ◌⊎◌, inl, inr, sym, subst}
use Rattle.std.specs.Prelude.{Option, Some}
use Rattle.tcc_reads.specs.History.{History}
use Rattle.tcc_least.specs.Shapes.{IsReturn}
use Rattle.tcc_least.specs.private.Places.{IsFoundUpTo, IsSound, IsAsGood}

module _ (h : History) where
  pub as_before : (best : Option (ℕ × ℕ)) → IsAsGood h best best
  as_before best = record { sound = λ s. s; kept = λ k l f. f }

  pub better_on : (first second third : Option (ℕ × ℕ)) → IsAsGood h first second → IsAsGood h second third → IsAsGood h first third
  better_on first second third p q = record { sound = λ s. q.sound (p.sound s); kept = λ k l f. q.kept k l (p.kept k l f) }

  -- the least of what was found and one more place
  pub one_more : (best new : Option (ℕ × ℕ)) (b a : ℕ) → IsReturn h b a → (new ≡ best) ⊎ (new ≡ Some (b, a))
      → ((k l : ℕ) → IsFoundUpTo best k l → IsFoundUpTo new k l) → IsAsGood h best new
  one_more best new b a is either kept = record { sound = sound either; kept = kept }
    where
      sound : (new ≡ best) ⊎ (new ≡ Some (b, a)) → IsSound h best → IsSound h new
      sound (inl same) s = subst (λ (z : Option (ℕ × ℕ)). IsSound h z) (sym same) s
      sound (inr here) s = subst (λ (z : Option (ℕ × ℕ)). IsSound h z) (sym here) is
