use Rattle.std.proofs.Common.{◌≡◌, ◌<◌, ◌≤◌, ℕ, length, slice_index}
use Rattle.tcc_near.specs.private.ClockRows.{raised}
use Rattle.tcc_near.proofs.vector_clocks.raise.Given as goal

abbrev pub invariant-loop-t : goal.invariant-loop-t
invariant-loop-t l =
    (length l.lasts ≡ length l.initial.lasts)
    × ((k : ℕ) → k < l.t → slice_index l.lasts k ≡ raised l.place (slice_index l.steps k) (slice_index l.initial.lasts k))
    × ((k : ℕ) → l.t ≤ k → slice_index l.lasts k ≡ slice_index l.initial.lasts k)
