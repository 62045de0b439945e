use Rattle.std.proofs.Common.{◌≡◌, ◌<◌, ℕ, true}
use Rattle.tcc_bits.specs.Bits.{is_marked}
use Rattle.tcc_survey.proofs.circle.first_left.Given as goal

abbrev pub invariant-loop-c : goal.invariant-loop-c
invariant-loop-c l = (k : ℕ) → k < l.c → is_marked l.placed k ≡ true
