use Rattle.std.proofs.Common.{sym, subst}
use Rattle.tcc_txn.specs.Transactions.{Transaction}
use Rattle.tcc_watch.specs.private.Keeping.{IsReady}
use Rattle.tcc_watch.specs.private.Arrivals.{IsFirstWaiting}
use Rattle.tcc_watch.specs.declared.lines.Line.{Line}
use Rattle.std.proofs.Common.{List}
use Rattle.tcc_watch.proofs.arrivals.Arrivals.deliver_next.Goals as goal

pub deliver-requires-clause-ready : goal.deliver-requires-clause-ready
deliver-requires-clause-ready c =
    let w : IsFirstWaiting c.args.self.now.lines.items c.args.index c.in-Some.txn.now
    = subst (λ (z : List Line). IsFirstWaiting z c.args.index c.in-Some.txn.now) c.deref.ensures.value c.in-Some.ensures in
    let r : IsReady c.args.self.now.kept.values c.in-Some.txn.now c.in-Some-2.reads.items = rw c.in-Some-2.is at c.in_ok-reads.ensures in
    record {
      inside = w.0;
      first = λ d first rest is. subst (λ (z : Transaction). IsReady c.args.self.now.kept.values z c.in-Some-2.reads.items) (sym (w.1 d first rest is)) r;
    }
