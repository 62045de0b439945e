use Rattle.tcc_large.proofs.Reached.{IsBack}
use Rattle.tcc_large.proofs.reachability.Reach.walk.Given as goal

abbrev pub invariant-loop-at : goal.invariant-loop-at
invariant-loop-at l = IsBack l.graph l.self.queue.items l.position l.at l.steps.items

abbrev pub decreases-loop-at : goal.decreases-loop-at
decreases-loop-at l = l.at
