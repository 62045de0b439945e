use Rattle.std.proofs.Common.{◌≡◌, ◌≢◌, ◌<◌, ℕ, length, slice_index}
use Rattle.tcc_clocks.specs.Needed.{IsMarked, IsSourceOf}
use Rattle.tcc_clocks.proofs.needed.mark_key.Given as goal

abbrev pub invariant-loop-b : goal.invariant-loop-b
invariant-loop-b l =
    (length l.needed ≡ length l.fn.needed)
    × ((s : ℕ) → IsMarked l.fn.needed s → IsMarked l.needed s)
    × ((k : ℕ) → k < l.b-index → (a : ℕ) → IsSourceOf l.sources a → slice_index l.writers k ≢ a → IsMarked l.needed (slice_index l.owners (slice_index l.writers k)))
