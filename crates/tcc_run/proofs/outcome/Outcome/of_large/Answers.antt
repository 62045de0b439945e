use Rattle.tcc_run.proofs.outcome.Outcome.of_large.Goals as goal

pub returns-in-Order : goal.returns-in-Order
returns-in-Order c = λ is. c.of_order.ensures (rw c.in-Order.is at is)

pub returns-in-Cycle : goal.returns-in-Cycle
returns-in-Cycle c = λ is. let first = rw c.in-Cycle.is at is in c.of_cycle.ensures first.0 first.1
