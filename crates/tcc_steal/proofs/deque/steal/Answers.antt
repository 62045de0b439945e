use Rattle.tcc_steal.proofs.StartQueueLemmas.{takes}
use Rattle.tcc_steal.proofs.deque.steal.Goals as goal

pub steal_as-requires-clause-takes : goal.steal_as-requires-clause-takes
steal_as-requires-clause-takes c = takes _ _ c.loop.invariant.1.live
