use Rattle.std.proofs.Common.{◌≡◌, ◌<◌, ◌≤◌, ◌↔◌, ◌*◌, ℕ, true, false, length, slice_index}
use Rattle.std.specs.Prelude.{bit_or, Contains}
use Rattle.tcc_bits.specs.Bits.{is_marked}
use Rattle.tcc_bits.specs.private.Ascending.{IsAscendingBelow}
use Rattle.tcc_bits.proofs.bits.take_fresh.Given as goal

abbrev pub invariant-loop-place : goal.invariant-loop-place
invariant-loop-place l =
    (length l.seen ≡ length l.initial.seen)
    × ((k : ℕ) → k < l.place → slice_index l.seen k ≡ bit_or (slice_index l.initial.seen k) (slice_index l.marks k))
    × ((k : ℕ) → l.place ≤ k → slice_index l.seen k ≡ slice_index l.initial.seen k)
    × ((b : ℕ) → Contains l.fresh.items b ↔ ((b < 64 * l.place) × (is_marked l.marks b ≡ true) × (is_marked l.initial.seen b ≡ false)))
    × IsAscendingBelow (64 * l.place) l.fresh.items
