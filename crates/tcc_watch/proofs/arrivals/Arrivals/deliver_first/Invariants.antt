use Rattle.tcc_watch.specs.private.Arrivals.{GoesOnAs, IsOpen}
use Rattle.tcc_watch.proofs.arrivals.Arrivals.deliver_first.Given as goal

abbrev pub invariant-loop-index : goal.invariant-loop-index
invariant-loop-index l = IsOpen l.self × GoesOnAs l.initial.self l.self
