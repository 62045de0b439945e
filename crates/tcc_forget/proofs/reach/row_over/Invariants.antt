use Rattle.std.proofs.Common.{ℕ, ◌≡◌, length, slice_index, take}
use Rattle.tcc_watch.specs.private.Rows.{IsLastOver}
use Rattle.tcc_forget.proofs.reach.row_over.Given as goal

abbrev pub invariant-loop-parent : goal.invariant-loop-parent
invariant-loop-parent l = record {
  long : length l.row ≡ l.sessions;
  over : (k : ℕ) → IsLastOver l.rows (take l.parent-index l.parents) k (slice_index l.row k);
}
