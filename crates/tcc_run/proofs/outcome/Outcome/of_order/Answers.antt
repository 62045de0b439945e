use Rattle.std.proofs.Common.{rules}
use Rattle.tcc_run.proofs.Outcomes.{found_order}
use Rattle.tcc_run.proofs.outcome.Outcome.of_order.Goals as goal

pub returns : goal.returns
returns c = λ is.
    let order = c.args.order.items in
    rw c.in_ok-held.ensures (found_order c.args.level c.args.graph order _ _ c.order_or_cycle.ensures is (search rules) (search rules) (c.has_order_room.ensures c.args.level order is.commit))
