use Rattle.std.proofs.Common.{◌<◌, ◌≤◌}
use Rattle.tcc_core.specs.private.Closing.{closing_at, IsLeastOf}
use Rattle.tcc_core.proofs.seeding.least_from.Given as goal

abbrev pub invariant-loop-b : goal.invariant-loop-b
invariant-loop-b l = IsLeastOf (λ x y. (l.from ≤ x) × (x < l.to) × (y < l.b)) (closing_at l.near l.prices) l.least
