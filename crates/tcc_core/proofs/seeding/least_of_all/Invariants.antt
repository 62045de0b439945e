use Rattle.std.proofs.Common.{◌<◌, ◌*◌, length}
use Rattle.tcc_core.specs.private.Closing.{closing_at, IsLeastOf}
use Rattle.tcc_core.proofs.seeding.least_of_all.Given as goal

abbrev pub invariant-loop-block : goal.invariant-loop-block
invariant-loop-block l =
    IsLeastOf (λ x y. (x < l.block * 32) × (x < length l.prices.prices) × (y < length l.prices.prices)) (closing_at l.near l.prices) l.least
