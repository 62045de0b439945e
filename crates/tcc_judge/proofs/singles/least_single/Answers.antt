use Rattle.std.proofs.Common.{arith}
use Rattle.tcc_judge.specs.private.Singles.{IsSingleBy}
use Rattle.tcc_judge.proofs.ReadingLemmas.{least_begun, least_next, least_of_all, reader_below}
use Rattle.tcc_judge.proofs.singles.least_single.Goals as goal

pub loop-index-init : goal.loop-index-init
loop-index-init c =
    least_begun c.args.graph.now c.args.a c.readings_at.result.0.now c.readings_at.result.1.now (IsSingleBy c.args.graph.now c.args.positions.now c.args.a)

pub session_begin-begin-requires-clause-reader : goal.session_begin-begin-requires-clause-reader
session_begin-begin-requires-clause-reader c =
    reader_below c.args.graph.now c.args.a c.readings_at.result.0.now c.readings_at.result.1.now c.readings_at.ensures c.loop-index.index c.loop-index-test.true

pub least_writer-writer-requires-clause-c : goal.least_writer-writer-requires-clause-c
least_writer-writer-requires-clause-c c =
    reader_below c.args.graph.now c.args.a c.readings_at.result.0.now c.readings_at.result.1.now c.readings_at.ensures c.loop-index.index c.loop-index-test.true

pub loop-index-preserved : goal.loop-index-preserved
loop-index-preserved c =
    rw c.min-least.ensures
    (least_next c.args.graph.now c.args.a c.readings_at.result.0.now c.readings_at.result.1.now
    (IsSingleBy c.args.graph.now c.args.positions.now c.args.a) c.loop-index.index
    c.least_writer-writer.result c.loop-index.least c.least_writer-writer.ensures c.loop-index.invariant)

pub returns : goal.returns
returns c =
    least_of_all c.args.graph.now c.args.a c.readings_at.result.0.now c.readings_at.result.1.now
    (IsSingleBy c.args.graph.now c.args.positions.now c.args.a) c.readings_at.ensures c.loop-index.index
    c.loop-index.least (omega arith) c.loop-index.invariant
