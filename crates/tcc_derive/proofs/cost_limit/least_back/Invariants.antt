use Rattle.tcc_derive.specs.private.Closings.{IsBackOrNone, NoneCheaper}
use Rattle.tcc_derive.proofs.cost_limit.least_back.Given as goal

abbrev pub invariant-loop-a : goal.invariant-loop-a
invariant-loop-a l = IsBackOrNone l.near.rows l.prices l.b l.least × NoneCheaper l.near.rows l.prices l.b l.from l.a l.least
