use Rattle.tcc_steal.proofs.StartQueueLemmas.{takes}
use Rattle.tcc_steal.proofs.deque.pop.Goals as goal

pub pop_as-requires-clause-fifo : goal.pop_as-requires-clause-fifo
pop_as-requires-clause-fifo c = λ _. takes _ _ c.requires.live
