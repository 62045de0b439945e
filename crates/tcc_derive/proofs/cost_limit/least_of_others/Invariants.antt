use Rattle.std.proofs.Common.{take}
use Rattle.tcc_derive.specs.private.Closings.{IsBackOrNone, NoOtherCheaper}
use Rattle.tcc_derive.proofs.cost_limit.least_of_others.Given as goal

abbrev pub invariant-loop-other : goal.invariant-loop-other
invariant-loop-other l =
    IsBackOrNone l.near.rows l.prices l.b l.least × NoOtherCheaper l.near.rows l.prices l.b (take l.other-index l.others) l.least
