use Rattle.std.proofs.Common.{arith, rules}
use Rattle.tcc_bound.proofs.Keeping.{offers}
use Rattle.tcc_bound.proofs.bound.Bound.offer.Goals as goal

pub fetch_min-found-requires : goal.fetch_min-found-requires
fetch_min-found-requires c = (search rules, omega arith, offers _ _ _ _ c.seat.invariant (search rules))
