use Rattle.tcc_steal.proofs.StartQueueLemmas.{forks}
use Rattle.tcc_steal.proofs.deque.pass_for_thief.Goals as goal

pub another-requires : goal.another-requires
another-requires c = forks _ _
