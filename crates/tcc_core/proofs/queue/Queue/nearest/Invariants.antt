use Rattle.std.proofs.Common.{◌<◌, ◌≤◌, ℕ, length, slice_index}
use Rattle.tcc_core.proofs.queue.Queue.nearest.Given as goal

abbrev pub invariant-loop-cost : goal.invariant-loop-cost
invariant-loop-cost l = (u : ℕ) → u < length l.self.costs → 0 < slice_index l.self.costs u → l.cost ≤ slice_index l.self.costs u
