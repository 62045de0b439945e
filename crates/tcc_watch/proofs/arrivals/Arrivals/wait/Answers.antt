use Rattle.tcc_watch.proofs.ArrivalLemmas.{one_waits}
use Rattle.tcc_watch.proofs.arrivals.Arrivals.wait.Goals as goal

pub returns : goal.returns
returns c s are = one_waits s c.args.self.now _ c.args.session c.args.txn c.in_ok-index.index are c.in_ok-index.ensures
