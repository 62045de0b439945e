-- One key after the other.
use Rattle.std.proofs.Common.{arith}
use Rattle.tcc_check.proofs.OnePair.{writer_stands_by}
use Rattle.tcc_check.proofs.single_pairs.writer_stands.Goals as goal

pub returns : goal.returns
returns c = λ t.
    writer_stands_by c.args.graph.now c.args.b c.writes_at-key-items.result.now c.args.positions.now c.args.sources.now c.writes_at-key-items.ensures.value
    c.writes_at-key-items.ensures.within (λ j l. c.loop-key.invariant j (omega (arith, l, c.loop-key-test.false)))
