use Rattle.std.proofs.Common.{◌≡◌, ◌≤◌, ◌<◌, ◌+◌, ◌⊎◌, ℕ, length, slice_index, min}
use Rattle.tcc_lanes.specs.private.Buckets.{AreQueuedOn}
use Rattle.tcc_lanes.proofs.stretches.lower_columns.Given as goal

abbrev pub invariant-loop-v : goal.invariant-loop-v
invariant-loop-v l = record {
  same : length l.costs ≡ length l.initial.costs;
  each : (k : ℕ) → l.from ≤ k → k < l.v → slice_index l.costs k ≡ min (slice_index l.initial.costs k) (l.level + l.price);
  rest : (k : ℕ) → (k < l.from) ⊎ (l.v ≤ k) → slice_index l.costs k ≡ slice_index l.initial.costs k;
  queued : AreQueuedOn l.initial.costs l.initial.buckets.items l.costs l.buckets.items;
}
