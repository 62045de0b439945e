use Rattle.std.proofs.Common.{arith}
use Rattle.tcc_judge.proofs.least_by_order.narrow_down.Goals as goal

pub returns-then-most-gt-MOST_STEPS : goal.returns-then-most-gt-MOST_STEPS
returns-then-most-gt-MOST_STEPS g c = λ bounded. omega (arith, bounded.steps, c.if-most-gt-MOST_STEPS.true)
