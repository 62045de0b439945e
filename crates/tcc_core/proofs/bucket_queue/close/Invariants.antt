use Rattle.std.proofs.Common.{◌≡◌, ◌<◌, ◌≤◌, ℕ, slice_index}
use Rattle.tcc_core.proofs.bucket_queue.close.Given as goal

abbrev pub invariant-loop-s : goal.invariant-loop-s
invariant-loop-s l = (k : ℕ) → l.fn.count ≤ k → k < l.s → slice_index l.table k ≡ k
