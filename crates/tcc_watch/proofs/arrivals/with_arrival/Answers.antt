use Rattle.std.proofs.Common.{subst}
use Rattle.std.specs.Prelude.{IfSome, Option}
use Rattle.tcc_watch.specs.declared.arrivals.Arrivals.{Arrivals}
use Rattle.tcc_watch.specs.private.Arrivals.{AreArrivals, IsOpen}
use Rattle.tcc_watch.proofs.arrivals.with_arrival.Goals as goal

pub arrive-requires : goal.arrive-requires
arrive-requires c = subst (λ (z : Option Arrivals). IfSome z IsOpen) c.in-Some.is c.requires

pub returns-in-Ok : goal.returns-in-Ok
returns-in-Ok c s are = c.in-Ok.ensures s (subst (λ (z : Option Arrivals). IfSome z (AreArrivals s)) c.in-Some.is are)
