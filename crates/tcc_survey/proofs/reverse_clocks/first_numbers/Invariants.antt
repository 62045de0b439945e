use Rattle.std.proofs.Common.{◌≡◌, ◌<◌, ◌≤◌, ◌+◌, ℕ, length, slice_index}
use Rattle.tcc_clocks.specs.declared.latest.TheConstants.{WIDE}
use Rattle.tcc_survey.proofs.reverse_clocks.first_numbers.Given as goal

abbrev pub invariant-loop-lane : goal.invariant-loop-lane
invariant-loop-lane l =
    (length l.row ≡ WIDE)
    × ((k : ℕ) → k < l.lane → (b : ℕ) → b < length l.owners → slice_index l.owners b ≡ l.from + k → slice_index l.row k ≤ b)
