use Rattle.std.proofs.Common.{arith}
use Rattle.tcc_large.proofs.Returned.{passed_room, passed_more, passed_back}
use Rattle.tcc_large.proofs.simple_cycle.first_return.Goals as goal

pub overflow_cast-position : goal.overflow_cast-position
overflow_cast-position c =
    omega (
      arith,
      passed_room c.args.count c.args.links.now c.loop-index.positions c.loop-index.index c.requires c.loop-index.invariant c.loop-index-test.true,
      c.ranges.count.fits,
    )

pub returns-then-before-gt0 : goal.returns-then-before-gt0
returns-then-before-gt0 c =
    passed_back c.args.count c.args.links.now c.loop-index.positions c.loop-index.index c.requires c.loop-index.invariant c.loop-index-test.true
    c.index-links-index.result c.from.result c.to.result c.get-before.result c.set.new.self c.index-links-index.is c.from.ensures c.to.ensures (cc)
    c.get-before.ensures c.if-before-gt0.true

pub loop-index-preserved : goal.loop-index-preserved
loop-index-preserved c =
    passed_more c.args.count c.args.links.now c.loop-index.positions c.loop-index.index c.requires c.loop-index.invariant c.loop-index-test.true
    c.index-links-index.result c.from.result c.to.result c.get-before.result c.set.new.self c.index-links-index.is c.from.ensures c.to.ensures (cc)
    c.get-before.ensures (omega (arith, c.if-before-gt0.false))
