use Rattle.std.proofs.Common.{arith, slice_index}
use borrow.Author.Count.{below_more}
use Rattle.tcc_clocks.specs.Clocks.{IsLike}
use Rattle.tcc_clocks.proofs.rows.like.Goals as goal

pub loop-number-preserved : goal.loop-number-preserved
loop-number-preserved c =
    below_more (λ k. IsLike c.args.table.now c.args.owners.now c.args.from c.in_ok-other.field-0.now (slice_index c.args.numbers.now k))
    c.loop-number.number-index c.loop-number.invariant (c.are_same.ensures c.if-not-are_same.false, c.is_inside.ensures c.if-is_inside.false)

pub returns-clause-all : goal.returns-clause-all
returns-clause-all c = λ k l. c.loop-number.invariant k (omega (arith, l, c.loop-number-test.false))
