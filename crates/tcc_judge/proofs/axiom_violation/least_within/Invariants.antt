use Rattle.std.proofs.Common.{◌≤◌}
use Rattle.tcc_judge.specs.declared.least.TheConstants.{NONE}
use Rattle.tcc_judge.specs.private.Least.{IsLeastOf}
use Rattle.tcc_judge.specs.private.Behind.{IsWithin}
use Rattle.tcc_judge.proofs.axiom_violation.least_within.Given as goal

abbrev pub invariant-loop-session : goal.invariant-loop-session
invariant-loop-session l = record {
  low : l.least ≤ NONE;
  least : IsLeastOf (IsWithin l.next l.clock l.session) l.least;
}
