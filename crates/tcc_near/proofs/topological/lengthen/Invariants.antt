use Rattle.std.proofs.Common.{◌≡◌, ◌<◌, ◌≤◌, ◌+◌, ℕ, length, slice_index}
use Rattle.std.specs.Prelude.{min}
use Rattle.tcc_near.specs.declared.walk_lengths.TheConstants.{NONE}
use Rattle.tcc_near.proofs.topological.lengthen.Given as goal

abbrev pub invariant-loop-least : goal.invariant-loop-least
invariant-loop-least l =
    (length l.row ≡ length l.initial.row)
    × ((k : ℕ) → k < l.least-index → slice_index l.row k ≡ min (slice_index l.initial.row k + 1) NONE)
    × ((k : ℕ) → l.least-index ≤ k → slice_index l.row k ≡ slice_index l.initial.row k)
