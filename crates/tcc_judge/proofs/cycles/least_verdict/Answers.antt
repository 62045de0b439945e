use Rattle.tcc_judge.proofs.Leastness.{past_four}
use Rattle.tcc_judge.proofs.cycles.least_verdict.Goals as goal

pub returns-then-cost-le-SHORT : goal.returns-then-cost-le-SHORT
returns-then-cost-le-SHORT g c = c.short_verdict.ensures c.args.level c.args.runs.now

pub returns-in_default : goal.returns-in_default
returns-in_default g c = absurd ((rw c.in_default.is at c.in_ok-order.ensures.whole) (c.requires.whole c.if-cost-le-SHORT.false))

pub onward_verdict-requires-clause-ordered : goal.onward_verdict-requires-clause-ordered
onward_verdict-requires-clause-ordered g c = rw c.deref.ensures.value (rw c.in-Some.is at c.in_ok-order.ensures.ordered)

pub returns : goal.returns
returns g c =
    let told = rw c.in-Some.is at c.in_ok-order.ensures.whole in
    past_four c.args.graph.now c.args.level c.args.cost c.args.runs.now c.if-cost-le-SHORT.false c.in_ok-verdict.verdict
    (rw (c.deref.ensures.value, told.1) at c.in_ok-verdict.ensures)
