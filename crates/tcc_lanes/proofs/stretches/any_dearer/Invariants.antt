use Rattle.std.proofs.Common.{◌≡◌, ◌≤◌, ◌<◌, ℕ, false, slice_index}
use Rattle.tcc_lanes.proofs.stretches.any_dearer.Given as goal

abbrev pub invariant-loop-v : goal.invariant-loop-v
invariant-loop-v l = l.is_dearer ≡ false → (k : ℕ) → l.from ≤ k → k < l.v → slice_index l.costs k ≤ l.cost
