use Rattle.std.proofs.Common.{◌≡◌, ◌<◌, ◌⊎◌, ℕ, None, length, slice_index}
use Rattle.tcc_core.specs.Rows.{in_row}
use Rattle.tcc_core.proofs.again.empty.Given as goal

abbrev pub invariant-loop-v : goal.invariant-loop-v
invariant-loop-v l = record {
  long : length l.row ≡ length l.initial.row;
  out : (k : ℕ) → k < l.v-index → in_row l.row (slice_index l.reached k) ≡ None;
  kept : (u : ℕ) → u < length l.row → (in_row l.row u ≡ in_row l.initial.row u) ⊎ (in_row l.row u ≡ None);
}
