use Rattle.std.specs.BinaryHeap.{heap_items}
use Rattle.tcc_order.proofs.QueuedLemmas.{pushed_one}
use Rattle.tcc_order.proofs.ready.Ready.push.Goals as goal

pub returns : goal.returns
returns c =
    rw (← c.self.view_is) (pushed_one (λ r. r.0) (record { 0 = c.args.number }) (heap_items c.self.inside.heap) (heap_items c.push.new.self) c.in_ok-push.ensures.permutation)
