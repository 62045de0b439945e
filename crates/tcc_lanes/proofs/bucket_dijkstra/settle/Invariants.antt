use Rattle.std.proofs.Common.{◌≡◌, length, take}
use Rattle.std.specs.List.{Contains}
use Rattle.tcc_lanes.specs.private.Buckets.{AreQueuedOn}
use Rattle.tcc_lanes.specs.private.Pricing.{IsSettled}
use Rattle.tcc_lanes.proofs.bucket_dijkstra.settle.Given as goal

abbrev pub invariant-loop-member : goal.invariant-loop-member
invariant-loop-member l = record {
  same : length l.costs ≡ length l.initial.costs;
  settled : IsSettled l.rows l.level (Contains (take l.member-index l.here)) l.initial.costs l.costs;
  queued : AreQueuedOn l.initial.costs l.initial.buckets.items l.costs l.buckets.items;
}
