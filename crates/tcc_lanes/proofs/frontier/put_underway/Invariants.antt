use Rattle.std.proofs.Common.{◌≡◌, ◌<◌, ℕ, length, slice_index}
use Rattle.tcc_lanes.specs.private.Walking.{underway_at}
use Rattle.tcc_lanes.proofs.frontier.put_underway.Given as goal

abbrev pub invariant-loop-v : goal.invariant-loop-v
invariant-loop-v l =
    (length l.underway ≡ length l.initial.underway)
    × ((k : ℕ) → k < l.v → slice_index l.underway k ≡ underway_at l.level (slice_index l.starts k) (slice_index l.reached k))
