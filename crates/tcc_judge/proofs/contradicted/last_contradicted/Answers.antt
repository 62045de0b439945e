use Rattle.std.proofs.Common.{◌+◌, ℕ, get_or, arith}
use Rattle.tcc_judge.proofs.BlockLemmas.{wide_at}
use Rattle.tcc_judge.proofs.ReadingLemmas.{reading_at}
use Rattle.tcc_judge.proofs.ContradictedLemmas.{to_all, to_more, to_none}
use Rattle.tcc_judge.proofs.contradicted.last_contradicted.Goals as goal

pub loop-index-init : goal.loop-index-init
loop-index-init c =
    to_none c.args.graph.now c.args.order.now c.args.positions.now c.args.block.now.from (c.args.place + 1) (get_or c.args.order.now c.args.place 0)
    c.readings_at.result.0.now c.readings_at.result.1.now

pub contradicted_to-to-requires-clause-wide : goal.contradicted_to-to-requires-clause-wide
contradicted_to-to-requires-clause-wide c = wide_at c.args.graph.now c.args.order.now (c.args.place + 1) c.args.block.now c.requires.at

pub contradicted_to-to-requires-clause-key : goal.contradicted_to-to-requires-clause-key
contradicted_to-to-requires-clause-key c =
    let reading =
    reading_at c.args.graph.now (get_or c.args.order.now c.args.place 0) c.readings_at.result.0.now c.readings_at.result.1.now c.readings_at.ensures
    c.loop-index.index c.loop-index-test.true in
    reading.key

pub contradicted_to-to-requires-clause-reader : goal.contradicted_to-to-requires-clause-reader
contradicted_to-to-requires-clause-reader c =
    let reading =
    reading_at c.args.graph.now (get_or c.args.order.now c.args.place 0) c.readings_at.result.0.now c.readings_at.result.1.now c.readings_at.ensures
    c.loop-index.index c.loop-index-test.true in
    reading.pair.1

pub loop-index-preserved : goal.loop-index-preserved
loop-index-preserved c =
    let h = c.args.graph.now in
    let order = c.args.order.now in
    let place = c.args.place + 1 in
    let a : ℕ = get_or order c.args.place 0 in
    let readers = c.readings_at.result.0.now in
    let key_indices = c.readings_at.result.1.now in
    let i = c.loop-index.index in
    let reading = reading_at h a readers key_indices c.readings_at.ensures i c.loop-index-test.true in
    rw c.max-last.ensures
    (to_more h order c.args.positions.now c.args.block.now.from place a readers key_indices i c.contradicted_to-to.result c.loop-index.last
    (c.contradicted_to-to.ensures order place a c.requires.at c.requires.positions reading.pair) c.loop-index.invariant)

pub returns : goal.returns
returns c =
    to_all c.args.graph.now c.args.order.now c.args.positions.now c.args.block.now.from (c.args.place + 1) (get_or c.args.order.now c.args.place 0)
    c.readings_at.result.0.now c.readings_at.result.1.now c.readings_at.ensures c.loop-index.index c.loop-index.last (omega arith) c.loop-index.invariant
