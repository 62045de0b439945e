use Rattle.std.proofs.Common.{ℕ, ◌<◌, ◌≤◌}
use Rattle.tcc_first.specs.private.Ways.{IsLastFrom}
use Rattle.tcc_first.proofs.short.last_start.Given as goal

abbrev pub invariant-loop-from : goal.invariant-loop-from
invariant-loop-from l = (u : ℕ) (q : ℕ) → l.start ≤ u → u < l.from → IsLastFrom l.graph l.start l.end l.left u q → ⊥
