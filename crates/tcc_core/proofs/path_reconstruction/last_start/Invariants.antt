use Rattle.std.proofs.Common.{ℕ, ◌<◌, ◌≤◌}
use Rattle.tcc_core.specs.private.Ways.{IsBefore}
use Rattle.tcc_core.proofs.path_reconstruction.last_start.Given as goal

abbrev pub invariant-loop-from : goal.invariant-loop-from
invariant-loop-from l = (u : ℕ) (c : ℕ) → l.back.start ≤ u → u < l.from → IsBefore l.prices l.back l.to l.left u c → ⊥
