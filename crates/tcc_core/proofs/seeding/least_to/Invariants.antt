use Rattle.std.proofs.Common.{◌≡◌, ◌<◌, ◌≤◌}
use Rattle.tcc_core.specs.private.Closing.{closing_at, IsLeastOf}
use Rattle.tcc_core.proofs.seeding.least_to.Given as goal

abbrev pub invariant-loop-a : goal.invariant-loop-a
invariant-loop-a l = IsLeastOf (λ x y. (l.from ≤ x) × (x < l.a) × (y ≡ l.b)) (closing_at l.near l.prices) l.least
