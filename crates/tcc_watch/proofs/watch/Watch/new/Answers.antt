use Rattle.std.proofs.Common.{sym, subst}
use Rattle.tcc_txn.specs.Snapshots.{Sessions}
use Rattle.tcc_watch.specs.private.Arrivals.{AreArrivals}
use Rattle.tcc_watch.proofs.watch.Watch.new.Goals as goal

pub invariant_of-result : goal.invariant_of-result
invariant_of-result c = subst (λ (s : Sessions). AreArrivals s c.in_ok-arrivals.arrivals) (sym c.empty.ensures) c.in_ok-arrivals.ensures
