use Rattle.std.proofs.Common.{◌≡◌, ◌<◌, ℕ, length, slice_index}
use Rattle.tcc_core.proofs.levels.wipe.Given as goal

abbrev pub invariant-loop-word : goal.invariant-loop-word
invariant-loop-word l = record {
  same : length l.marks ≡ length l.initial.marks;
  zeros : (k : ℕ) → k < l.word-index → slice_index l.marks k ≡ 0;
}
