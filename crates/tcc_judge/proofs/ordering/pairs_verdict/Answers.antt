use Rattle.std.proofs.Common.{inl, inr, refl}
use Rattle.tcc_judge.proofs.ordering.pairs_verdict.Goals as goal

pub returns-in-Err : goal.returns-in-Err
returns-in-Err g c = rw c.rejected_at.ensures (inl (refl, rw c.in-Err.is at c.in_ok-positions.ensures))

pub first_broken-requires-clause-kept : goal.first_broken-requires-clause-kept
first_broken-requires-clause-kept g c = rw c.deref.ensures.value (rw c.in-Ok.is at c.in_ok-positions.ensures)

pub returns-in-Some : goal.returns-in-Some
returns-in-Some g c =
    rw c.rejected_at-in-Some.ensures (inr ((rw c.in-Ok.is at c.in_ok-positions.ensures).reads, inl (refl, rw c.in-Some.is at c.in_ok-at.ensures)))

pub returns : goal.returns
returns g c = ((rw c.in-Ok.is at c.in_ok-positions.ensures).reads, (rw c.in-None.is at c.in_ok-at.ensures, tt))
