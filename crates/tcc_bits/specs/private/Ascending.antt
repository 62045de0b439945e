-- Numbers that ascend.
use Rattle.std.specs.Prelude.{ℕ, ◌<◌, List, Contains}
use Rattle.std.specs.List.{AllPairs}

-- ascending numbers, each once, all below n
pub record IsAscendingBelow (n : ℕ) (numbers : List ℕ) : Type 0 where
  pub below : (b : ℕ) → Contains numbers b → b < n
  pub ascending : AllPairs (λ a b. a < b) numbers
