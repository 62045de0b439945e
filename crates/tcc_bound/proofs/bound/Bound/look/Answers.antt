use Rattle.std.proofs.Common.{arith, rules}
use Rattle.tcc_bound.proofs.Keeping.{looks}
use Rattle.tcc_bound.proofs.bound.Bound.look.Goals as goal

pub load-requires : goal.load-requires
load-requires c = (search rules, omega arith, looks _ _ _ c.seat.invariant)
