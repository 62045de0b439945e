use Rattle.std.proofs.Common.{◌<◌, ℕ, slice_index}
use Rattle.tcc_survey.specs.private.Settled.{IsHitOf}
use Rattle.tcc_survey.proofs.scanning.Scan.hit_of_few.Given as goal

abbrev pub invariant-loop-writer : goal.invariant-loop-writer
invariant-loop-writer l = (k : ℕ) → k < l.writer-index → IsHitOf l.self (slice_index l.self.writers.now k) → ⊥
