use Rattle.std.proofs.Common.{◌≡◌, ◌<◌, ◌⊎◌, ℕ, length, slice_index}
use Rattle.tcc_core.specs.private.Queues.{IsFar}
use Rattle.tcc_core.proofs.queue.shut.Given as goal

abbrev pub invariant-loop-v : goal.invariant-loop-v
invariant-loop-v l =
    (length l.costs ≡ length l.initial.costs) × (length l.buckets ≡ length l.initial.buckets)
    × ((k : ℕ) → k < l.v-index → IsFar l.costs l.buckets (slice_index l.listed k))
    × ((u : ℕ) → u < length l.costs
    → ((slice_index l.costs u ≡ slice_index l.initial.costs u) × (slice_index l.buckets u ≡ slice_index l.initial.buckets u)) ⊎ IsFar l.costs l.buckets u)
