-- no search before came back at the cost
use Rattle.std.proofs.Common.{◌<◌, ℕ}
use Rattle.tcc_steal.specs.private.Working.{CameBack}
use Rattle.tcc_steal.proofs.branch_and_bound.first_back.Given as goal

abbrev pub invariant-loop-start : goal.invariant-loop-start
invariant-loop-start l = (k : ℕ) → k < l.start → CameBack l.searches k l.cost → ⊥
