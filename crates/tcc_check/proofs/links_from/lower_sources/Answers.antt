use Rattle.std.proofs.Common.{arith}
use Rattle.tcc_check.proofs.LinksFrom.{no-source, readers-below, readers-of, one-source, all-sources}
use Rattle.tcc_check.proofs.links_from.lower_sources.Goals as goal

pub loop-source-init : goal.loop-source-init
loop-source-init c = no-source c.args.graph.now c.args.row.now c.args.weights.now c.args.weights.now

pub loop-source-preserved : goal.loop-source-preserved
loop-source-preserved c =
    one-source c.args.graph.now c.args.row.now c.args.weights.now c.loop-source.weights c.loop-source.source c.readings_at.result.0.now
    c.lower_source.new.weights (omega (arith, c.loop-source.auto.source))
    (readers-of c.args.graph.now c.loop-source.source c.readings_at.result.0.now c.readings_at.result.1.now c.readings_at.ensures)
    c.loop-source.invariant c.lower_source.ensures

pub returns : goal.returns
returns c =
    all-sources c.args.graph.now c.args.row.now c.args.weights.now c.loop-source.weights c.loop-source.source
    (omega (arith, c.count-source-end.ensures.value, c.loop-source-test.false)) c.loop-source.invariant

pub lower_source-requires-clause-readers : goal.lower_source-requires-clause-readers
lower_source-requires-clause-readers c =
    rw c.requires.row
    (readers-below c.args.graph.now c.loop-source.source c.readings_at.result.0.now c.readings_at.result.1.now c.readings_at.ensures)
