use Rattle.std.proofs.Common.{◌≡◌, ◌<◌, ◌≤◌, ◌+◌, ◌↔◌, ◌⊎◌, ℕ}
use Rattle.std.specs.Prelude.{Contains}
use Rattle.std.specs.Int.{bit_at}
use Rattle.tcc_bits.specs.private.Ascending.{IsAscendingBelow}
use Rattle.tcc_bits.proofs.Ascending.{IsAscendingBefore}
use Rattle.tcc_bits.proofs.bits.push_marked.Given as goal

abbrev pub invariant-loop-left : goal.invariant-loop-left
invariant-loop-left l =
    ((i : ℕ) → i < 64 → bit_at l.left i ≤ bit_at l.word i)
    × ((b : ℕ) → Contains l.numbers.items b ↔
    (Contains l.initial.numbers.items b ⊎ ((i : ℕ) × (i < 64) × (bit_at l.word i ≡ 1) × (bit_at l.left i ≡ 0) × (b ≡ l.first + i))))
    × (IsAscendingBelow l.first l.initial.numbers.items → IsAscendingBefore l.first l.left l.numbers.items)

abbrev pub decreases-loop-left : goal.decreases-loop-left
decreases-loop-left l = l.left
