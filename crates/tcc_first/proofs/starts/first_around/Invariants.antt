use Rattle.std.proofs.Common.{ℕ, ◌<◌}
use Rattle.tcc_first.specs.private.Ways.{IsAround}
use Rattle.tcc_first.proofs.starts.first_around.Given as goal

abbrev pub invariant-loop-start : goal.invariant-loop-start
invariant-loop-start l = (t : ℕ) → t < l.start → IsAround l.graph l.steps t → ⊥
