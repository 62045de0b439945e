use Rattle.tcc_watch.specs.private.Arrivals.{GoesOnAs, IsOpen}
use Rattle.tcc_watch.proofs.arrivals.Arrivals.deliver_all.Given as goal

abbrev pub invariant-loop-round : goal.invariant-loop-round
invariant-loop-round l = IsOpen l.self × GoesOnAs l.initial.self l.self
