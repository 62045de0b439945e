use Rattle.std.proofs.Common.{◌≡◌, true}
use Rattle.tcc_derive.specs.private.LeadingBack.{stands_at}
use Rattle.tcc_first.specs.private.Picks.{IsLowestOf}
use Rattle.tcc_first.proofs.LastSteps.{IsStartIn}
use Rattle.tcc_first.proofs.first_walks.lowest_start.Given as goal

abbrev pub invariant-loop-read : goal.invariant-loop-read
invariant-loop-read l =
    IsLowestOf (λ u. IsStartIn l.graph l.end l.read-items l.read-index u × (stands_at l.lengths l.from u l.left ≡ true)) l.lowest
