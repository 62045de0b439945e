use Rattle.std.proofs.Common.{◌<◌, ℕ}
use Rattle.tcc_survey.specs.private.Settled.{IsHitOnLane}
use Rattle.tcc_survey.proofs.scanning.Scan.hit_of_many.Given as goal

abbrev pub invariant-loop-lane : goal.invariant-loop-lane
invariant-loop-lane l = (k : ℕ) → k < l.lane → (b : ℕ) → IsHitOnLane l.self k b → ⊥
