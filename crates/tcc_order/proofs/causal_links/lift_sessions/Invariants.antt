use Rattle.std.proofs.Common.{◌≡◌, ◌<◌, ◌≤◌, ℕ, length, slice_index}
use Rattle.tcc_order.specs.private.CausalLinks.{IsLifted}
use Rattle.tcc_order.proofs.causal_links.lift_sessions.Given as goal

abbrev pub invariant-loop-column : goal.invariant-loop-column
invariant-loop-column l =
    (length l.need ≡ length l.initial.need)
    × ((k : ℕ) → k < l.column → IsLifted l.owners l.from l.clock l.writers l.a k (slice_index l.initial.need k) (slice_index l.need k))
    × ((k : ℕ) → l.column ≤ k → slice_index l.need k ≡ slice_index l.initial.need k)
