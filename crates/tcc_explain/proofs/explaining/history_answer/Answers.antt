use Rattle.tcc_explain.proofs.explaining.history_answer.Goals as goal

pub order_answer-requires-clause-order : goal.order_answer-requires-clause-order
order_answer-requires-clause-order g c = rw (c.deref.ensures.value, c.in-Order.is) at c.in_ok-first.ensures

pub cycle_answer-requires-clause-cycle : goal.cycle_answer-requires-clause-cycle
cycle_answer-requires-clause-cycle g c = λ κs lives. rw (c.deref.ensures.value, c.in-Cycle.is) at c.in_ok-first.ensures
