use Rattle.std.proofs.Common.{◌+◌, length}
use Rattle.tcc_check.specs.private.Searches.{IsFoundBelow}
use Rattle.tcc_check.proofs.Overshot.{SeenAt}
use Rattle.tcc_check.proofs.first_broken.overshot_at.Given as goal

abbrev pub invariant-loop-end : goal.invariant-loop-end
invariant-loop-end l = IsFoundBelow (l.low + length l.row) (SeenAt l.end-index l.ends l.row l.low l.cost) l.found
