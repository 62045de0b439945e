use Rattle.std.proofs.Common.{arith}
use Rattle.tcc_least.proofs.Within.{none_past, none_under, first_past}
use Rattle.tcc_least.proofs.returning.first_within.Goals as goal

pub returns-then-index-numbers : goal.returns-then-index-numbers
returns-then-index-numbers c =
    none_past c.args.numbers.now c.args.low c.count_below-index.result c.requires c.count_below-index.ensures.point c.count_below-index.ensures.bound
    c.args.high (omega arith)

pub returns-then-number-high : goal.returns-then-number-high
returns-then-number-high c =
    first_past c.args.numbers.now c.args.low c.count_below-index.result c.requires c.count_below-index.ensures.point c.count_below-index.ensures.bound
    c.args.high (omega arith) c.if-number-high.true

pub returns-else-number-high : goal.returns-else-number-high
returns-else-number-high c =
    none_under c.args.numbers.now c.args.low c.count_below-index.result c.requires c.count_below-index.ensures.point c.count_below-index.ensures.bound
    c.args.high (omega arith) c.if-number-high.false
