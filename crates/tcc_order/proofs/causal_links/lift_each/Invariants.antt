use Rattle.std.proofs.Common.{◌≡◌, ◌<◌, ℕ, length, slice_index, take}
use Rattle.tcc_order.specs.private.CausalLinks.{IsLifted}
use Rattle.tcc_order.proofs.causal_links.lift_each.Given as goal

abbrev pub invariant-loop-writer : goal.invariant-loop-writer
invariant-loop-writer l =
    (length l.need ≡ length l.initial.need)
    × ((k : ℕ) → k < length l.initial.need
    → IsLifted l.owners l.from l.clock (take l.writer-index l.writers) l.a k (slice_index l.initial.need k) (slice_index l.need k))
