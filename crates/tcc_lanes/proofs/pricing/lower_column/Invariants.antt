use Rattle.std.proofs.Common.{◌≡◌, ◌≢◌, ◌<◌, ◌≤◌, ◌+◌, ℕ, length, slice_index}
use Rattle.tcc_lanes.specs.declared.words.TheConstants.{LANES}
use Rattle.tcc_lanes.specs.private.Marks.{HasLane}
use Rattle.tcc_lanes.specs.private.Pricing.{IsLowered, cell}
use Rattle.tcc_lanes.proofs.pricing.lower_column.Given as goal

abbrev pub invariant-loop-lane : goal.invariant-loop-lane
invariant-loop-lane l = record {
  same : length l.table ≡ length l.initial.table;
  each : (v i : ℕ) → cell (v + 1) 0 ≤ length l.initial.table → i < LANES
      → IsLowered ((v ≡ l.column) × (i < l.lane) × HasLane l.word i × (slice_index l.starts i ≢ l.to)) l.price (slice_index l.initial.table (cell v i))
      (slice_index l.table (cell v i));
}
