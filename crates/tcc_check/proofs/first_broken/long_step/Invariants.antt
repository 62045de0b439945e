use Rattle.std.proofs.Common.{◌+◌, ◌⊎◌, length}
use Rattle.tcc_check.specs.private.Searches.{IsFoundBelow, IsLongRunTo}
use Rattle.tcc_check.proofs.Overshot.{SeenOther}
use Rattle.tcc_check.proofs.first_broken.long_step.Given as goal

abbrev pub invariant-loop-index : goal.invariant-loop-index
invariant-loop-index l = IsFoundBelow (l.low + length l.row) (λ v. IsLongRunTo l.begins l.row l.low v ⊎ SeenOther l.index l.others l.row l.low v) l.found
