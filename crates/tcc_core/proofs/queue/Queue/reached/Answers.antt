use Rattle.tcc_core.proofs.Filing.{taken_long, taken_below, taken_each}
use Rattle.tcc_core.proofs.queue.Queue.reached.Goals as goal

pub slice_bounds-result-end : goal.slice_bounds-result-end
slice_bounds-result-end c = rw c.deref.ensures.value (taken_long c.self.invariant.1)

pub returns-clause-below : goal.returns-clause-below
returns-clause-below c = rw (c.deref.ensures.value, ← c.self.view_is) (taken_below c.self.invariant.1)

pub returns-clause-each : goal.returns-clause-each
returns-clause-each c = rw (c.deref.ensures.value, ← c.self.view_is) (taken_each c.self.invariant.1)
