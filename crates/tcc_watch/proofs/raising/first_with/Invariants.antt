use Rattle.std.proofs.Common.{ℕ, ◌<◌, ◌≤◌, ◌-◌, length, slice_index}
use Rattle.tcc_graph.specs.Tables.{row_of}
use Rattle.tcc_watch.specs.private.Rows.{GoesTo}
use Rattle.tcc_watch.proofs.raising.first_with.Given as goal

abbrev pub invariant-loop-low : goal.invariant-loop-low
invariant-loop-low l = record {
  order : l.low ≤ l.high;
  within : l.high ≤ length l.numbers;
  before : (i : ℕ) → i < l.low → GoesTo l.at (row_of l.rows (slice_index l.numbers i)) → ⊥;
  from : (i : ℕ) → l.high ≤ i → i < length l.numbers → GoesTo l.at (row_of l.rows (slice_index l.numbers i));
}

abbrev pub decreases-loop-low : goal.decreases-loop-low
decreases-loop-low l = l.high - l.low
