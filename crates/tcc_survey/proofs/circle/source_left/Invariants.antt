use Rattle.std.proofs.Common.{◌≡◌, ◌<◌, ℕ, true, get_or}
use Rattle.tcc_bits.specs.Bits.{is_marked}
use Rattle.tcc_survey.proofs.circle.source_left.Given as goal

abbrev pub invariant-loop-read : goal.invariant-loop-read
invariant-loop-read l = (k : ℕ) → k < l.read-index → is_marked l.placed (get_or l.read-items k (0, 0)).1 ≡ true
