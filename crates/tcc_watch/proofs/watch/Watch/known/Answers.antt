use Rattle.std.proofs.Common.{subst}
use Rattle.std.specs.Prelude.{IfSome, Option}
use Rattle.tcc_txn.specs.Snapshots.{Sessions}
use Rattle.tcc_watch.specs.Verdicts.{IsVerdict}
use Rattle.tcc_watch.specs.declared.arrivals.Arrivals.{Arrivals}
use Rattle.tcc_watch.specs.private.Arrivals.{AreArrivals}
use Rattle.tcc_watch.proofs.watch.Watch.known.Goals as goal

pub returns-in-Some : goal.returns-in-Some
returns-in-Some c =
    subst (λ (s : Sessions). IfSome c.verdict.result (IsVerdict s c.args.level)) c.self.view_is
    (c.verdict.ensures c.self.inside.taken (subst (λ (z : Option Arrivals). IfSome z (AreArrivals c.self.inside.taken)) c.in-Some.is c.self.invariant))
