use Rattle.std.proofs.Common.{arith}
use Rattle.tcc_judge.proofs.PositionLemmas.{all_placed, numbering_few, one_placed}
use Rattle.tcc_judge.proofs.positions.positions_of.Goals as goal

pub overflow_cast-position : goal.overflow_cast-position
overflow_cast-position c =
    omega (arith, numbering_few c.args.count c.args.order.now c.requires, c.ranges.count.fits, c.loop-position-test.true)

pub loop-position-preserved : goal.loop-position-preserved
loop-position-preserved c =
    one_placed c.args.count c.args.order.now c.loop-position.positions.items c.loop-position.position c.requires c.loop-position-test.true
    c.loop-position.invariant

pub returns : goal.returns
returns c =
    all_placed c.args.count c.args.order.now c.loop-position.positions.items c.loop-position.position c.requires c.loop-position-test.false
    c.loop-position.invariant
