-- The result of placing the transactions one after another.
use Rattle.std.specs.Prelude.{ℕ, ◌<◌, ◌≡◌, Bool, true, false, List}
use Rattle.tcc_bits.specs.Bits.{is_marked}
use Rattle.tcc_order.specs.private.Numbering.{IsFirstOf}
use Rattle.tcc_order.specs.declared.kahn.Placed.{Placed}
use Rattle.tcc_order.specs.declared.kahn.Placed.TheVariants as placed

-- x was not placed
abbrev pub IsLeftOut : ℕ → List ℕ → ℕ → Type 0
IsLeftOut n marks x = (x < n) × (is_marked marks x ≡ false)

-- some were not placed, and each of them has to come after one that was not
pub record IsStuckBy (precedes : ℕ → ℕ → Bool) (n : ℕ) (marks : List ℕ) : Type 0 where
  pub some : (x : ℕ) × IsLeftOut n marks x
  pub held : (x : ℕ) → IsLeftOut n marks x → (b : ℕ) × IsLeftOut n marks b × (precedes b x ≡ true)

abbrev pub IsPlaced : (ℕ → ℕ → Bool) → ℕ → Placed → Type 0
IsPlaced precedes n (placed.Order order) = IsFirstOf precedes n order.items
IsPlaced precedes n (placed.Stuck marks) = IsStuckBy precedes n marks.items
