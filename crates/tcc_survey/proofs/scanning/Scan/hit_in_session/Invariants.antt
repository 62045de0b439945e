use Rattle.std.proofs.Common.{◌<◌, ℕ, slice_index}
use Rattle.tcc_survey.specs.private.Settled.{IsHitOnLane}
use Rattle.tcc_survey.proofs.scanning.Scan.hit_in_session.Given as goal

abbrev pub invariant-loop-index : goal.invariant-loop-index
invariant-loop-index l = (k : ℕ) → k < l.index → IsHitOnLane l.self l.lane (slice_index l.self.writers.now k) → ⊥
