use Rattle.std.proofs.Common.{◌≡◌, ◌<◌, ◌≤◌, ℕ, length, slice_index}
use Rattle.std.specs.Prelude.{max}
use Rattle.tcc_forget.proofs.reach.raise_each.Given as goal

abbrev pub invariant-loop-session : goal.invariant-loop-session
invariant-loop-session l =
    (length l.places ≡ length l.initial.places)
    × ((k : ℕ) → k < l.session → slice_index l.places k ≡ max (slice_index l.other k) (slice_index l.initial.places k))
    × ((k : ℕ) → l.session ≤ k → slice_index l.places k ≡ slice_index l.initial.places k)
