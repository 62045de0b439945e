use Rattle.std.proofs.Common.{◌≡◌, ◌⊎◌, ℕ, true, length}
use Rattle.std.specs.Prelude.{Contains}
use Rattle.tcc_bits.specs.Bits.{is_marked}
use Rattle.tcc_order.proofs.kahn.first_ready.Given as goal

abbrev pub invariant-loop-number : goal.invariant-loop-number
invariant-loop-number l =
    ((y : ℕ) → Contains l.ready y → Contains l.initial.ready y)
    × ((y : ℕ) → Contains l.initial.ready y → (is_marked l.placed y ≡ true) ⊎ Contains l.ready y)

abbrev pub decreases-loop-number : goal.decreases-loop-number
decreases-loop-number l = length l.ready
