use Rattle.std.specs.BinaryHeap.{heap_items}
use Rattle.tcc_order.proofs.QueuedLemmas.{popped_one}
use Rattle.tcc_order.proofs.ready.Ready.pop.Goals as goal

pub returns : goal.returns
returns c =
    rw (← c.self.view_is)
    (popped_one (λ r. r.0) c.in_ok-top.top (heap_items c.self.inside.heap) (heap_items c.pop.new.self) c.in_ok-top.ensures.permutation
    (c.in_ok-top.ensures.heap_order c.self.invariant).1)
