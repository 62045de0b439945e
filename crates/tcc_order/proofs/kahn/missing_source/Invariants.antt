use Rattle.std.proofs.Common.{◌≡◌, ◌<◌, ◌≤◌, ℕ, true, get_or}
use Rattle.tcc_bits.specs.Bits.{is_marked}
use Rattle.tcc_order.proofs.kahn.missing_source.Given as goal

abbrev pub invariant-loop-index : goal.invariant-loop-index
invariant-loop-index l = (k : ℕ) → l.from ≤ k → k < l.index → is_marked l.placed (get_or l.reads k (0, 0)).1 ≡ true
