use Rattle.std.proofs.Common.{◌≡◌, ◌<◌, ◌≤◌, ℕ, length, slice_index}
use Rattle.std.specs.Prelude.{min}
use Rattle.tcc_clocks.proofs.rows.lower_each.Given as goal

abbrev pub invariant-loop-session : goal.invariant-loop-session
invariant-loop-session l =
    (length l.row ≡ length l.initial.row)
    × ((k : ℕ) → k < l.session → slice_index l.row k ≡ min (slice_index l.other k) (slice_index l.initial.row k))
    × ((k : ℕ) → l.session ≤ k → slice_index l.row k ≡ slice_index l.initial.row k)
