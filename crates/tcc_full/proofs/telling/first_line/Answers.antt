use Rattle.tcc_full.proofs.telling.first_line.Goals as goal

pub returns-in-Order : goal.returns-in-Order
returns-in-Order g c = rw c.in-Order.is (rw c.deref.ensures.value at c.order_line.ensures)

pub returns-in-Cycle : goal.returns-in-Cycle
returns-in-Cycle g c = rw c.in-Cycle.is (rw c.deref-in-Cycle.ensures.value at c.anomaly_line.ensures)
