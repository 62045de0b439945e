use Rattle.tcc_judge.proofs.Ordered.{with_sizes}
use Rattle.tcc_judge.proofs.ordering.judge_order_watched.Goals as goal

pub pairs_verdict-requires : goal.pairs_verdict-requires
pairs_verdict-requires g c = rw c.deref.ensures.value (rw c.in-Some.is at c.in_ok-order.ensures.ordered)

pub returns : goal.returns
returns g c =
    let claimed = rw c.in-Some.is at c.in_ok-order.ensures.sizes in
    with_sizes c.args.graph.now c.args.claim.now claimed.0 c.in_ok-verdict.verdict
    (rw (c.deref.ensures.value, claimed.1) at c.in_ok-verdict.ensures)
