use Rattle.std.proofs.Common.{◌≡◌, ◌<◌, ℕ, length, slice_index}
use Rattle.tcc_bits.specs.Bits.{is_marked}
use Rattle.tcc_near.specs.private.Breadth.{one_step}
use Rattle.tcc_near.proofs.breadth_first.steps_to.Given as goal

abbrev pub invariant-loop-number : goal.invariant-loop-number
invariant-loop-number l = (length l.steps.items ≡ l.number) × ((b : ℕ) → b < l.number → slice_index l.steps.items b ≡ one_step (is_marked l.marks b))
