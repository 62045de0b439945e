use Rattle.std.proofs.Common.{◌≡◌, ◌<◌, ℕ, List, length}
use Rattle.std.specs.List.{Contains}
use Rattle.tcc_graph.specs.Levels.{Judged}
use Rattle.tcc_graph.specs.Tables.{row_of}
use Rattle.tcc_lanes.specs.private.Buckets.{AreQueued}
use Rattle.tcc_lanes.specs.private.Pricing.{ArePriceRows, IsReached, IsSettledFrom}
use Rattle.tcc_lanes.proofs.bucket_dijkstra.costs_from.Given as goal

abbrev pub invariant-loop-level : goal.invariant-loop-level
invariant-loop-level l = record {
  same : length l.costs.items ≡ length l.rows;
  inside : (k v : ℕ) → Contains (row_of l.buckets.items k) v → v < length l.rows;
  queued : AreQueued l.level l.costs.items l.buckets.items;
  reached : (j : Judged) (members : List ℕ) → ArePriceRows j members l.most (length members) l.rows → IsReached j members l.rows l.start l.level l.costs.items;
  attained : (v : ℕ) → v < length l.rows → IsSettledFrom l.rows l.start l.level l.costs.items v;
}
