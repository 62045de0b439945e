use Rattle.std.proofs.Common.{ℕ, ◌<◌, ◌≡◌, true}
use Rattle.std.specs.Prelude.{slice_index}
use Rattle.tcc_bits.specs.Bits.{is_marked}
use Rattle.tcc_large.proofs.predecessor_cycle.first_left.Given as goal

abbrev pub invariant-loop-number : goal.invariant-loop-number
invariant-loop-number l = (k : ℕ) → k < l.number-index → is_marked l.placed (slice_index l.numbers k) ≡ true
