use Rattle.std.proofs.Common.{◌*◌}
use Rattle.tcc_derive.specs.private.Closings.{IsClosingOrNone}
use Rattle.tcc_derive.proofs.LimitLemmas.{AreLooked}
use Rattle.tcc_derive.proofs.cost_limit.cost_limit.Given as goal

abbrev pub invariant-loop-block : goal.invariant-loop-block
invariant-loop-block l =
    IsClosingOrNone l.near.rows l.prices l.least × AreLooked l.near.rows l.prices l.others l.few (l.block * 32) l.least
