use Rattle.std.proofs.Common.{◌≡◌, true}
use Rattle.tcc_derive.specs.private.LeadingBack.{stands_at}
use Rattle.tcc_first.proofs.LastSteps.{IsDown}
use Rattle.tcc_first.proofs.first_walks.lowest_before.Given as goal

abbrev pub invariant-loop-at : goal.invariant-loop-at
invariant-loop-at l = IsDown l.graph (λ u. stands_at l.lengths l.from u l.left ≡ true) l.end l.at l.lowest

abbrev pub decreases-loop-at : goal.decreases-loop-at
decreases-loop-at l = l.at
