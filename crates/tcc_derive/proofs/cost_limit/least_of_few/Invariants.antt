use Rattle.std.proofs.Common.{ℕ, ◌<◌, ◌≤◌, ◌⊎◌}
use Rattle.std.specs.Prelude.{slice_index}
use Rattle.tcc_graph.specs.Tables.{row_of}
use Rattle.tcc_derive.specs.private.Closings.{HasMany, IsClosingOrNone, NoOtherCheaper}
use Rattle.tcc_derive.proofs.cost_limit.least_of_few.Given as goal

abbrev pub invariant-loop-b : goal.invariant-loop-b
invariant-loop-b l =
    IsClosingOrNone l.near.rows l.prices l.least
    × ((b : ℕ) → b < l.b → (l.least ≤ slice_index (row_of l.near.rows b) b)
    × (HasMany l.few l.others b ⊎ NoOtherCheaper l.near.rows (row_of l.prices b) b (row_of l.others b) l.least))
