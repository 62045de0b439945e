use Rattle.std.proofs.Common.{◌≡◌, ℕ, length}
use Rattle.tcc_graph.specs.Tables.{row_of}
use Rattle.tcc_lanes.proofs.buckets.grow.Given as goal

abbrev pub invariant-loop-bucket : goal.invariant-loop-bucket
invariant-loop-bucket l = record {
  long : length l.buckets.items ≡ l._bucket;
  kept : (cost : ℕ) → row_of l.buckets.items cost ≡ row_of l.initial.buckets.items cost;
}
