use Rattle.tcc_near.proofs.FreshLemmas.{IsNumbered}
use Rattle.tcc_near.proofs.breadth_first.number.Given as goal

abbrev pub invariant-loop-number : goal.invariant-loop-number
invariant-loop-number l = IsNumbered l.initial.steps l.steps l.fresh l.number-index l.distance
