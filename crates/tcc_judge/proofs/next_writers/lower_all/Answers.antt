use Rattle.std.proofs.Common.{◌≡◌, ◌<◌, length, get_or, set, arith}
use Rattle.std.proofs.lemmas.List.{take_all}
use Rattle.tcc_graph.specs.Tables.{row_of}
use Rattle.tcc_judge.specs.private.NextWriters.{lowered}
use Rattle.tcc_judge.proofs.NextLemmas.{lowered_none, lowered_more}
use Rattle.tcc_judge.proofs.next_writers.lower_all.Goals as goal

pub loop-key_index-init : goal.loop-key_index-init
loop-key_index-init c = lowered_none c.args.next.now c.args.session c.args.number

pub lower-requires-clause-key : goal.lower-requires-clause-key
lower-requires-clause-key c =
    omega (arith, c.requires.keys c.loop-key_index.key_index-index 0 c.loop-key_index-test.true, c.loop-key_index.invariant.long)

pub loop-key_index-preserved : goal.loop-key_index-preserved
loop-key_index-preserved c =
    let i = c.loop-key_index.key_index-index in
    let keys = c.args.key_indices.now in
    let old = c.args.next.now in
    let table = c.loop-key_index.next in
    let low : get_or keys i 0 < length old = c.requires.keys i 0 c.loop-key_index-test.true in
    let wide : c.args.session < length (row_of old (get_or keys i 0)) = omega (arith, c.requires.wide (get_or keys i 0) low, c.requires.session) in
    let new : c.lower.new.self ≡ set table (get_or keys i 0) (lowered (row_of table (get_or keys i 0)) c.args.session c.args.number) = c.in_ok-lower.ensures in
    rw new (lowered_more keys i c.args.session c.args.number old table c.loop-key_index-test.true low wide c.loop-key_index.invariant)

pub returns : goal.returns
returns c = rw (take_all c.loop-key_index.key_index-index c.args.key_indices.now c.loop-key_index-test.false) at c.loop-key_index.invariant
