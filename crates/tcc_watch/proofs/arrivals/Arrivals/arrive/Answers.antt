use Rattle.tcc_txn.specs.Finished.{with_transaction}
use Rattle.tcc_watch.proofs.arrivals.Arrivals.arrive.Goals as goal

pub deliver_next-requires : goal.deliver_next-requires
deliver_next-requires c =
    (with_transaction c.requires.0 c.args.session c.args.txn, c.in_ok-index.ensures c.requires.0 c.requires.1)

pub deliver_all-requires : goal.deliver_all-requires
deliver_all-requires c = (
  with_transaction c.requires.0 c.args.session c.args.txn,
  c.in_ok-deliver_next.ensures (with_transaction c.requires.0 c.args.session c.args.txn) (c.in_ok-index.ensures c.requires.0 c.requires.1),
)
