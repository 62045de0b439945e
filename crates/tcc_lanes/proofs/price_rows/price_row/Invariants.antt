use Rattle.std.proofs.Common.{◌≡◌, ◌<◌, ℕ, List, length, slice_index, if◌then◌else◌}
use Rattle.tcc_reads.specs.History.{History}
use Rattle.tcc_graph.specs.Relations.{causal_pair}
use Rattle.tcc_lanes.specs.private.Pricing.{AreMarked, ArePairsFrom, cell}
use Rattle.tcc_lanes.proofs.price_rows.price_row.Given as goal

abbrev pub invariant-loop-column : goal.invariant-loop-column
invariant-loop-column l = record {
  long : length l.row ≡ l.column;
  each : (h : History) (starts : List ℕ) → l.lane < length starts → ArePairsFrom h starts l.pairs → AreMarked l.members starts l.prices.lanes.items l.prices.table.items
      → (v : ℕ) → v < l.column
      → slice_index l.row v ≡ (if causal_pair h (slice_index starts l.lane) (slice_index l.members v) then 1 else slice_index l.prices.table.items (cell v l.lane));
}
