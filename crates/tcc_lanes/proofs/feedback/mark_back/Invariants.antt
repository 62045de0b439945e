use Rattle.std.proofs.Common.{◌≡◌, ◌≢◌, ◌<◌, ◌≤◌, ◌↔◌, ◌⊎◌, ℕ, false, length, slice_index, slice_index_or}
use Rattle.tcc_lanes.specs.declared.pricing.TheConstants.{NONE}
use Rattle.tcc_lanes.specs.private.Feedback.{IsMarked}
use Rattle.tcc_lanes.proofs.feedback.mark_back.Given as goal

abbrev pub invariant-loop-v : goal.invariant-loop-v
invariant-loop-v l = record {
  same : length l.marks ≡ length l.initial.marks;
  each : (k : ℕ) → k < l.v → IsMarked l.marks k ↔ (IsMarked l.initial.marks k ⊎ ((slice_index l.prices k ≢ NONE) × (l.turn ≤ slice_index l.left k)));
  rest : (k : ℕ) → l.v ≤ k → slice_index_or l.marks k false ≡ slice_index_or l.initial.marks k false;
}
