-- The least of some numbers, as more of them are looked at; and the first of some pairs.
use Rattle.std.proofs.Common.{◌≡◌, ◌<◌, ◌≤◌, ◌⊎◌, inl, inr, ℕ, arith, refl, sym, subst}
use Rattle.std.specs.Prelude.{min}
use Rattle.std.proofs.lemmas.Bool.{cases_lt}
use Rattle.tcc_judge.specs.declared.least.TheConstants.{NONE}
use Rattle.tcc_judge.specs.private.Least.{IsLeastOf}

-- no number is meant
pub least_none : (Is : ℕ → Type 0) → ((n : ℕ) → Is n → ⊥) → IsLeastOf Is NONE
least_none Is nobody = record { attained = inl refl; lowest = λ n is. absurd (nobody n is) }

-- the same for numbers that are described in another way
pub least_same : (Is Other : ℕ → Type 0) (least : ℕ) → ((n : ℕ) → Is n → Other n) → ((n : ℕ) → Other n → Is n) → IsLeastOf Is least → IsLeastOf Other least
least_same Is Other least there back w = record { attained = go w.attained; lowest = λ n is. w.lowest n (back n is) }
  where
    go : (least ≡ NONE) ⊎ Is least → (least ≡ NONE) ⊎ Other least
    go (inl none) = inl none
    go (inr is) = inr (there least is)

-- one more number
pub least_lower : (Is Other : ℕ → Type 0) (least more : ℕ) → ((n : ℕ) → Is n → Other n) → Other more → ((n : ℕ) → Other n → Is n ⊎ (n ≡ more))
    → IsLeastOf Is least → IsLeastOf Other (min more least)
least_lower Is Other least more there new back w = record { attained = go (cases_lt least more) w.attained; lowest = λ n is. low n (back n is) }
  where
    go : (least < more) ⊎ (more ≤ least) → (least ≡ NONE) ⊎ Is least → (min more least ≡ NONE) ⊎ Other (min more least)
    go (inr l) old = let e : min more least ≡ more = omega arith in inr (subst Other (sym e) new)
    go (inl l) (inl none) = inl (omega arith)
    go (inl l) (inr is) = let e : min more least ≡ least = omega arith in inr (subst Other (sym e) (there least is))

    low : (n : ℕ) → Is n ⊎ (n ≡ more) → min more least ≤ n
    low n (inl is) = omega (arith, w.lowest n is)
    low n (inr same) = omega arith

-- the lesser of two is the least of both
pub least_both : (One Other : ℕ → Type 0) (one other : ℕ) → IsLeastOf One one → IsLeastOf Other other → IsLeastOf (λ n. One n ⊎ Other n) (min one other)
least_both One Other one other v w = record { attained = go (cases_lt other one) v.attained w.attained; lowest = low }
  where
    go : (other < one) ⊎ (one ≤ other) → (one ≡ NONE) ⊎ One one → (other ≡ NONE) ⊎ Other other
        → (min one other ≡ NONE) ⊎ (One (min one other) ⊎ Other (min one other))
    go (inl l) first (inl none) = inl (omega arith)
    go (inl l) first (inr is) = let e : min one other ≡ other = omega arith in inr (inr (subst Other (sym e) is))
    go (inr l) (inl none) second = inl (omega arith)
    go (inr l) (inr is) second = let e : min one other ≡ one = omega arith in inr (inl (subst One (sym e) is))

    low : (n : ℕ) → One n ⊎ Other n → min one other ≤ n
    low n (inl is) = omega (arith, v.lowest n is)
    low n (inr is) = omega (arith, w.lowest n is)
