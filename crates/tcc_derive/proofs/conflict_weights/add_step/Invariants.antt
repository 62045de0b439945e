use Rattle.std.proofs.Common.{◌≡◌, ◌<◌, ◌≤◌, ℕ, length, slice_index}
use Rattle.tcc_derive.specs.private.Lowering.{one_more}
use Rattle.tcc_derive.proofs.conflict_weights.add_step.Given as goal

abbrev pub invariant-loop-cost : goal.invariant-loop-cost
invariant-loop-cost l =
    (length l.costs ≡ length l.initial.costs)
    × ((k : ℕ) → k < l.cost-index → slice_index l.costs k ≡ one_more (slice_index l.initial.costs k))
    × ((k : ℕ) → l.cost-index ≤ k → slice_index l.costs k ≡ slice_index l.initial.costs k)
