use Rattle.std.proofs.Common.{slice_index, arith}
use borrow.Author.Count.{below_more}
use Rattle.tcc_clocks.specs.Clocks.{IsOutside}
use Rattle.tcc_order.proofs.block_start.block_start.Goals as goal

pub loop-position-init : goal.loop-position-init
loop-position-init c = λ j l. absurd (omega (arith, l))

pub loop-position-preserved : goal.loop-position-preserved
loop-position-preserved c =
    below_more (λ j. IsOutside c.args.owners.now c.args.from (slice_index c.args.order.now j)) c.loop-position.position c.loop-position.invariant
    (c.is_of_block.ensures.outside c.if-is_of_block.false)

pub returns-clause-before : goal.returns-clause-before
returns-clause-before c = λ j l. c.loop-position.invariant j (omega (arith, l, c.loop-position-test.false))
