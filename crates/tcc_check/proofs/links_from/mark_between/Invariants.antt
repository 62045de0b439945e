use Rattle.tcc_check.specs.private.Weights.{IsLowered}
use Rattle.tcc_check.specs.private.WeightsFrom.{BetweenWeighs}
use Rattle.tcc_check.proofs.links_from.mark_between.Given as goal

abbrev pub invariant-loop-number : goal.invariant-loop-number
invariant-loop-number l = IsLowered (BetweenWeighs l.first l.number) l.initial.weights l.weights
