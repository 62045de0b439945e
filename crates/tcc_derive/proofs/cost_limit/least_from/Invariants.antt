use Rattle.std.proofs.Common.{ℕ, ◌<◌}
use Rattle.tcc_graph.specs.Tables.{row_of}
use Rattle.tcc_derive.specs.private.Closings.{HasMany, IsClosingOrNone, NoneCheaper}
use Rattle.tcc_derive.proofs.cost_limit.least_from.Given as goal

abbrev pub invariant-loop-b : goal.invariant-loop-b
invariant-loop-b l =
    IsClosingOrNone l.near.rows l.prices l.least
    × ((b : ℕ) → b < l.b → HasMany l.few l.others b → NoneCheaper l.near.rows (row_of l.prices b) b l.from l.to l.least)
