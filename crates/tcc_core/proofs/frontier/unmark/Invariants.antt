use Rattle.std.proofs.Common.{◌≡◌, ◌<◌, ◌⊎◌, ℕ, length, slice_index}
use Rattle.tcc_core.specs.declared.frontier.TheConstants.{UNMARKED}
use Rattle.tcc_core.proofs.frontier.unmark.Given as goal

abbrev pub invariant-loop-v : goal.invariant-loop-v
invariant-loop-v l = record {
  long : length l.marks ≡ length l.initial.marks;
  unmarked : (k : ℕ) → k < l.v-index → slice_index l.marks (slice_index l.reached k) ≡ UNMARKED;
  kept : (u : ℕ) → u < length l.marks → (slice_index l.marks u ≡ slice_index l.initial.marks u) ⊎ (slice_index l.marks u ≡ UNMARKED);
}
