use Rattle.std.proofs.Common.{arith}
use Rattle.tcc_answering.proofs.firsts.first_of.Goals as goal

pub first_cycle-requires-clause-cycle : goal.first_cycle-requires-clause-cycle
first_cycle-requires-clause-cycle c =
    let (s, least) = (rw c.in-Least.is at c.requires.decided).0 in
    (s, least.cycle)

pub first_cycle-requires-clause-none : goal.first_cycle-requires-clause-none
first_cycle-requires-clause-none c = λ more t others cycle.
    let (s, least) = (rw c.in-Least.is at c.requires.decided).0 in
    omega (arith, more, least.least t others cycle)
