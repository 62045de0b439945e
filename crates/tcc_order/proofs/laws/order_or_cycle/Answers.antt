use Rattle.tcc_order.proofs.OrderOrCycle.{no_cycle, an_order}
use Rattle.tcc_order.proofs.laws.order_or_cycle.Goals as goal

pub returns : goal.returns
returns c = λ j. (λ w. no_cycle j w.0 w.1, an_order j)
