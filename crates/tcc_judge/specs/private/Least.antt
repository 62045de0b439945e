-- The least of some numbers, and the first of some pairs of numbers.
use Rattle.std.specs.Prelude.{ℕ, ◌≡◌, ◌≤◌, ◌⊎◌, Option, MatchOption}
use Rattle.tcc_cert.specs.Tables.{IsFirstAt}
use Rattle.tcc_cert.specs.Rules.{HoldsEverywhere}
use Rattle.tcc_judge.specs.declared.least.TheConstants.{NONE}

-- the least of the numbers that are meant; where there is none, it may be `NONE`
pub record IsLeastOf (Is : ℕ → Type 0) (least : ℕ) : Type 0 where
  pub attained : (least ≡ NONE) ⊎ Is least
  pub lowest : (n : ℕ) → Is n → least ≤ n

-- where something is broken first; none where it is broken nowhere
abbrev pub IsFoundFirst : (ℕ × ℕ → Type 0) → Option (ℕ × ℕ) → Type 0
IsFoundFirst broken found = MatchOption found (HoldsEverywhere broken) (IsFirstAt broken)
