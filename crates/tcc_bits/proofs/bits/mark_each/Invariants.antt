use Rattle.std.proofs.Common.{◌≡◌, ◌↔◌, ◌⊎◌, ℕ, true, length, take}
use Rattle.std.specs.Prelude.{Contains}
use Rattle.tcc_bits.specs.Bits.{is_marked}
use Rattle.tcc_bits.proofs.bits.mark_each.Given as goal

abbrev pub invariant-loop-number : goal.invariant-loop-number
invariant-loop-number l =
    (length l.words ≡ length l.initial.words)
    × ((b : ℕ) → (is_marked l.words b ≡ true) ↔ ((is_marked l.initial.words b ≡ true) ⊎ Contains (take l.number-index l.numbers) b))
