use Rattle.std.proofs.Common.{◌≡◌, ◌++◌, length}
use Rattle.tcc_reads.specs.History.{count}
use Rattle.tcc_order.specs.private.Held.{holds}
use Rattle.tcc_order.specs.private.Queued.{AreQueued, AreSure, IsAny}
use Rattle.tcc_order.proofs.kahn.Precedence.look_at_woken.Given as goal

abbrev pub invariant-loop-number : goal.invariant-loop-number
invariant-loop-number l =
    (length l.queue.seen.items ≡ count l.self.graph.now)
    × AreQueued (holds l.self.graph.now l.self.kept.now) l.self.parents.now l.placed IsAny (l.queue.woken.items ++ l.queue.ready) l.queue.waiting
    × AreSure (holds l.self.graph.now l.self.kept.now) l.placed l.queue.ready

abbrev pub decreases-loop-number : goal.decreases-loop-number
decreases-loop-number l = length l.queue.woken.items
