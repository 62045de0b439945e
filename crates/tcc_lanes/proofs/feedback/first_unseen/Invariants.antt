use Rattle.std.proofs.Common.{◌<◌, ℕ}
use Rattle.tcc_lanes.specs.private.Feedback.{IsUnseen}
use Rattle.tcc_lanes.proofs.feedback.first_unseen.Given as goal

abbrev pub invariant-loop-column : goal.invariant-loop-column
invariant-loop-column l = (u : ℕ) → u < l.column → IsUnseen l.prices l.seen u → ⊥
