use Rattle.std.proofs.Common.{◌≡◌, ◌++◌, [], length}
use Rattle.tcc_reads.specs.History.{count}
use Rattle.tcc_bits.specs.Bits.{words_for}
use Rattle.tcc_order.proofs.Greedy.{Picks}
use Rattle.tcc_order.specs.private.Held.{holds}
use Rattle.tcc_order.specs.private.Queued.{AreQueued, AreSure, IsAny}
use Rattle.tcc_order.proofs.Fronts.{Says}
use Rattle.tcc_order.proofs.kahn.first_placing.Given as goal

abbrev pub invariant-loop : goal.invariant-loop
invariant-loop l =
    (length l.placed.items ≡ words_for (count l.graph))
    × (length l.order.items ≡ l.counter)
    × Says l.placed.items l.order.items
    × Picks (holds l.graph l.kept) (count l.graph) [] l.order.items
    × (length l.queue.seen.items ≡ count l.graph)
    × AreQueued (holds l.graph l.kept) l.parents l.placed.items IsAny (l.queue.woken.items ++ l.queue.ready) l.queue.waiting
    × AreSure (holds l.graph l.kept) l.placed.items l.queue.ready
