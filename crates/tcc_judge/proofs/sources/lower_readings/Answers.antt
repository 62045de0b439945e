use Rattle.std.proofs.Common.{◌∙◌, get_or, arith}
use Rattle.tcc_judge.proofs.ReadingLemmas.{reading_at}
use Rattle.tcc_judge.proofs.SourceLemmas.{in_all, in_more, in_none}
use Rattle.tcc_judge.proofs.sources.lower_readings.Goals as goal

pub loop-index-init : goal.loop-index-init
loop-index-init c =
    in_none c.args.graph.now c.args.clocks.now c.args.a c.readings_at.result.0.now c.readings_at.result.1.now c.readings_at.ensures c.args.gaps.now c.requires.keys

pub get-requires : goal.get-requires
get-requires c =
    let reading =
    reading_at c.args.graph.now c.args.a c.readings_at.result.0.now c.readings_at.result.1.now c.readings_at.ensures c.loop-index.index c.loop-index-test.true in
    omega (arith, reading.pair.1, c.requires.long)

pub lower_row-requires-clause-key : goal.lower_row-requires-clause-key
lower_row-requires-clause-key c =
    let reading =
    reading_at c.args.graph.now c.args.a c.readings_at.result.0.now c.readings_at.result.1.now c.readings_at.ensures c.loop-index.index c.loop-index-test.true in
    omega (arith, reading.key, c.requires.keys, c.loop-index.invariant.long)

pub lower_row-requires-clause-wide : goal.lower_row-requires-clause-wide
lower_row-requires-clause-wide c =
    let i = c.loop-index.index in
    let reading = reading_at c.args.graph.now c.args.a c.readings_at.result.0.now c.readings_at.result.1.now c.readings_at.ensures i c.loop-index-test.true in
    let key = get_or c.readings_at.result.1.now i 0 in
    c.loop-index.invariant.wide key (omega (arith, reading.key, c.requires.keys)) ∙ c.requires.rows key reading.key

pub lower_row-requires-clause-clock : goal.lower_row-requires-clause-clock
lower_row-requires-clause-clock c =
    let i = c.loop-index.index in
    let reading = reading_at c.args.graph.now c.args.a c.readings_at.result.0.now c.readings_at.result.1.now c.readings_at.ensures i c.loop-index-test.true in
    rw c.get.ensures (c.requires.wide (get_or c.readings_at.result.0.now i 0) reading.pair.1)

pub loop-index-preserved : goal.loop-index-preserved
loop-index-preserved c =
    in_more c.args.graph.now c.args.clocks.now c.args.a c.readings_at.result.0.now c.readings_at.result.1.now c.readings_at.ensures c.args.gaps.now c.requires.keys
    c.loop-index.index c.loop-index.gaps c.lower_row.new.gaps (rw c.get.ensures at c.in_ok-lower_row.ensures) c.loop-index.invariant

pub returns : goal.returns
returns c =
    in_all c.args.graph.now c.args.clocks.now c.args.a c.readings_at.result.0.now c.readings_at.result.1.now c.readings_at.ensures c.args.gaps.now c.requires.keys
    c.loop-index.index c.loop-index.gaps (omega arith) c.loop-index.invariant
