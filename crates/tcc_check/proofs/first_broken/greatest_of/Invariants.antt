use Rattle.std.proofs.Common.{◌<◌, ◌≤◌, ℕ, get_or}
use Rattle.tcc_check.proofs.first_broken.greatest_of.Given as goal

abbrev pub invariant-loop-value : goal.invariant-loop-value
invariant-loop-value l = (k d : ℕ) → k < l.value-index → get_or l.row k d ≤ l.greatest
