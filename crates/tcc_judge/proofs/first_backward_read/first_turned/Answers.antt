use Rattle.std.proofs.Common.{◌<◌, arith}
use Rattle.tcc_reads.specs.History.{count}
use Rattle.tcc_judge.specs.declared.least.TheConstants.{NONE}
use Rattle.tcc_judge.proofs.PositionLemmas.{below_more, first_here}
use Rattle.tcc_judge.proofs.first_backward_read.first_turned.Goals as goal

pub loop-a-preserved : goal.loop-a-preserved
loop-a-preserved c =
    let few : count c.args.graph.now < NONE = omega arith in
    below_more c.args.graph.now c.args.positions.now c.loop-a.a c.least_turned-least.result few c.if-least.false c.least_turned-least.ensures c.loop-a.invariant

pub returns-then-least : goal.returns-then-least
returns-then-least c =
    first_here c.args.graph.now c.args.positions.now c.loop-a.a c.least_turned-least.result c.if-least.true c.least_turned-least.ensures c.loop-a.invariant

pub returns : goal.returns
returns c at is = c.loop-a.invariant at (omega (arith, is.1.0, c.count-a-end.ensures.value, c.loop-a-test.false)) is
