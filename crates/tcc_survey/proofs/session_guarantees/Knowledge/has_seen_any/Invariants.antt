use Rattle.std.proofs.Common.{◌<◌, ◌≤◌, ℕ, length, slice_index}
use Rattle.tcc_survey.specs.private.Spells.{IsSeenAfter}
use Rattle.tcc_survey.proofs.session_guarantees.Knowledge.has_seen_any.Given as goal

abbrev pub invariant-loop-session : goal.invariant-loop-session
invariant-loop-session l = record {
  far : l._session ≤ l.next;
  within : l.next ≤ length l.among;
  unseen : (k : ℕ) → k < l.next → IsSeenAfter l.self.graph.now l.self.reader (slice_index l.among k) → ⊥;
}
