use Rattle.tcc_clocks.specs.Parents.{AreSteps}
use Rattle.tcc_clocks.proofs.parents.steps_along.Given as goal

abbrev pub invariant-loop-number : goal.invariant-loop-number
invariant-loop-number l = AreSteps l.graph l.order l.spans.items l.numbers.items l.number-index
