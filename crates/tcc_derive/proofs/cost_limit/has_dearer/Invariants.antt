use Rattle.std.proofs.Common.{◌≤◌, take}
use Rattle.std.specs.Prelude.{All}
use Rattle.tcc_derive.proofs.cost_limit.has_dearer.Given as goal

abbrev pub invariant-loop-other : goal.invariant-loop-other
invariant-loop-other l = All (λ p. p.1 ≤ l.limit) (take l.other-index l.others)
