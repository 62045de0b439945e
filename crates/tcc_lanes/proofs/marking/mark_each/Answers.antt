use Rattle.std.proofs.Common.{◌<◌, get_or, length, arith}
use Rattle.std.proofs.lemmas.List.{take_all}
use Rattle.tcc_lanes.proofs.MarkLemmas.{marked_none, marked_more}
use Rattle.tcc_lanes.proofs.marking.mark_each.Goals as goal

pub loop-index-init : goal.loop-index-init
loop-index-init c = marked_none c.args.indices.now c.args.lane c.args.marks.now

pub mark_at-requires-clause-inside : goal.mark_at-requires-clause-inside
mark_at-requires-clause-inside c =
    let inside : get_or c.args.indices.now c.loop-index.index-index 0 < length c.args.marks.now =
    c.requires.inside c.loop-index.index-index 0 c.loop-index-test.true in
    omega (arith, inside, c.loop-index.invariant.0)

pub loop-index-preserved : goal.loop-index-preserved
loop-index-preserved c =
    marked_more c.args.indices.now c.args.lane c.args.marks.now c.loop-index.marks c.mark_at.new.marks c.loop-index.index-index c.loop-index-test.true
    c.loop-index.invariant c.mark_at.ensures.same c.mark_at.ensures.each

pub returns-clause-each : goal.returns-clause-each
returns-clause-each c = rw (take_all c.loop-index.index-index c.args.indices.now c.loop-index-test.false) at c.loop-index.invariant.1
