use Rattle.std.proofs.Common.{◌≡◌, ◌+◌, length, take, drop}
use Rattle.tcc_check.specs.private.Groups.{links_by, total}
use Rattle.tcc_check.specs.private.Searches.{IsFoundBelow}
use Rattle.tcc_check.proofs.Overshot.{SeenOver}
use Rattle.tcc_check.proofs.first_broken.overshot.Given as goal

abbrev pub invariant-loop-weight : goal.invariant-loop-weight
invariant-loop-weight l =
    record {
      left : l.left ≡ drop (total (take l.weight-index l.groups)) l.initial.left;
      seen : IsFoundBelow (l.low + length l.row)
          (SeenOver (total (take l.weight-index l.groups)) (links_by l.groups l.initial.left) l.row l.low l.before) l.found;
    }
