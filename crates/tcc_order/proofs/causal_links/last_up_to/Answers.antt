use Rattle.std.proofs.Common.{arith}
use Rattle.tcc_order.proofs.Rising.{last_none, last_there}
use Rattle.tcc_order.proofs.causal_links.last_up_to.Goals as goal

pub returns-then-count-eq0 : goal.returns-then-count-eq0
returns-then-count-eq0 c =
    last_none c.args.numbers.now c.requires c.args.top c.count_up_to-count.result c.count_up_to-count.ensures.bound c.count_up_to-count.ensures.point
    c.if-count-eq0.true

pub returns : goal.returns
returns c =
    last_there c.args.numbers.now c.requires c.args.top c.count_up_to-count.result c.count_up_to-count.ensures.bound c.count_up_to-count.ensures.point
    (omega (arith, c.if-count-eq0.false))
