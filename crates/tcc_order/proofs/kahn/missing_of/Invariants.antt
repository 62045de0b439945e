use Rattle.std.proofs.Common.{◌≡◌, ◌<◌, ◌≤◌, ℕ, true, slice_index}
use Rattle.tcc_bits.specs.Bits.{is_marked}
use Rattle.tcc_order.proofs.kahn.missing_of.Given as goal

abbrev pub invariant-loop-index : goal.invariant-loop-index
invariant-loop-index l = (k : ℕ) → l.from ≤ k → k < l.index → is_marked l.placed (slice_index l.numbers k) ≡ true
