use Rattle.std.proofs.Common.{◌≡◌, ◌≢◌, ◌<◌, ℕ, length, slice_index}
use Rattle.tcc_lanes.specs.declared.words.TheConstants.{LANES}
use Rattle.tcc_lanes.specs.private.Marks.{IsAt}
use Rattle.tcc_lanes.specs.private.Pricing.{IsLowered, cell}
use Rattle.tcc_lanes.proofs.pricing.lower.Given as goal

abbrev pub invariant-loop-column : goal.invariant-loop-column
invariant-loop-column l = record {
  same : length l.table ≡ length l.initial.table;
  each : (v i : ℕ) → v < length l.members → i < LANES
      → IsLowered ((v < l.column) × (i < length l.starts) × IsAt l.found v i × (slice_index l.starts i ≢ slice_index l.members v)) l.price
      (slice_index l.initial.table (cell v i)) (slice_index l.table (cell v i));
}
