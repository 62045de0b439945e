use Rattle.std.proofs.Common.{ℕ, ◌<◌, ◌≡◌, true}
use Rattle.tcc_bits.specs.Bits.{is_marked}
use Rattle.tcc_large.proofs.predecessor_cycle.StuckOrder.first_of_all.Given as goal

abbrev pub invariant-loop-number : goal.invariant-loop-number
invariant-loop-number l = (v : ℕ) → v < l.number → is_marked l.self.stuck.now.placed.items v ≡ true
