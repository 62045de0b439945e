use Rattle.tcc_reads.proofs.ListsLemmas.{transactions_pushed}
use Rattle.tcc_reads.proofs.transactions.Transactions.with.Goals as goal

pub returns : goal.returns
returns c =
    rw (c.in_ok-push.ensures.items, c.in_ok-push-2.ensures.pushed, c.in_ok-push-3.ensures.pushed, ← c.self.view_is)
    (transactions_pushed c.self.inside.places.items c.self.inside.writes c.self.inside.reads c.self.invariant.0 c.self.invariant.1 c.args.place c.args.writes.now
    c.args.reads.now)
