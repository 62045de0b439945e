use Rattle.std.proofs.Common.{◌≡◌, ◌<◌, ◌≤◌, ℕ, length, slice_index}
use Rattle.std.specs.Prelude.{min}
use Rattle.tcc_near.proofs.topological.lower.Given as goal

abbrev pub invariant-loop-c : goal.invariant-loop-c
invariant-loop-c l =
    (length l.row ≡ length l.initial.row)
    × ((k : ℕ) → k < l.c → slice_index l.row k ≡ min (slice_index l.other k) (slice_index l.initial.row k))
    × ((k : ℕ) → l.c ≤ k → slice_index l.row k ≡ slice_index l.initial.row k)
