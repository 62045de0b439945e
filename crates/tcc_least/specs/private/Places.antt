-- Places that were examined, and the least of those that were found.
use Rattle.std.specs.Prelude.{ℕ, ◌<◌, ◌≤◌, ◌≡◌, ◌⊎◌, Option, MatchOption}
use Rattle.tcc_reads.specs.History.{History}
use Rattle.tcc_least.specs.Shapes.{IsReturn}

-- the place is before (k, l), or is it
abbrev pub IsUpTo : ℕ × ℕ → ℕ → ℕ → Type 0
IsUpTo place k l = (place.0 < k) ⊎ ((place.0 ≡ k) × (place.1 ≤ l))

-- some place up to this one was found
abbrev pub IsFoundUpTo : Option (ℕ × ℕ) → ℕ → ℕ → Type 0
IsFoundUpTo best k l = MatchOption best ⊥ (λ place. IsUpTo place k l)

-- what was found is a return
abbrev pub IsSound : History → Option (ℕ × ℕ) → Type 0
IsSound h best = MatchOption best (Unit {0}) (λ place. IsReturn h place.0 place.1)

-- what is found now is as good as what was found before
pub record IsAsGood (h : History) (old : Option (ℕ × ℕ)) (new : Option (ℕ × ℕ)) : Type 0 where
  pub sound : IsSound h old → IsSound h new
  pub kept : (k : ℕ) (l : ℕ) → IsFoundUpTo old k l → IsFoundUpTo new k l
