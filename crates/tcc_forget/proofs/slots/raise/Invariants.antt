use Rattle.std.proofs.Common.{ℕ, ◌≡◌, ◌<◌, ◌≤◌, length}
use Rattle.tcc_graph.specs.Tables.{row_of}
use Rattle.tcc_forget.specs.private.Linking.{IsRaisedRow}
use Rattle.tcc_forget.proofs.slots.raise.Given as goal

abbrev pub invariant-loop-each : goal.invariant-loop-each
invariant-loop-each g l = record {
  long : length l.rows ≡ length l.initial.rows;
  wide : (i : ℕ) → length (row_of l.rows i) ≡ length (row_of l.initial.rows i);
  done : (i : ℕ) → i < l.each-index → IsRaisedRow l.a l.row (row_of l.initial.rows i) (row_of l.rows i);
  left : (i : ℕ) → l.each-index ≤ i → row_of l.rows i ≡ row_of l.initial.rows i;
}
