-- One key after the other.
use Rattle.std.proofs.Common.{◌≡◌, None, arith, get_or, refl}
use Rattle.std.proofs.lemmas.List.{get_or_read}
use Rattle.tcc_check.specs.private.Readings.{readings_at}
use Rattle.tcc_check.proofs.ByKey.{no-key_index, one-key_index, all-written}
use Rattle.tcc_check.proofs.links_from.lower_keys.Goals as goal

pub loop-key_index-init : goal.loop-key_index-init
loop-key_index-init c = no-key_index c.args.graph.now c.args.written.now c.args.row.now c.args.start c.args.weights.now c.args.weights.now

pub lower_key-requires-clause-readings : goal.lower_key-requires-clause-readings
lower_key-requires-clause-readings c =
    let k = get_or c.args.written.now c.loop-key_index.key_index-index 0 in
    let inside = c.requires.written c.loop-key_index.key_index-index 0 c.loop-key_index-test.true in
    let same : c.index-readings-key_index.result ≡ readings_at c.args.readings.now k =
    get_or_read c.args.readings.now k c.index-readings-key_index.result (omega (arith, inside, c.requires.readings.long)) c.index-readings-key_index.is None in
    rw same (c.requires.readings.rows k inside)

pub loop-key_index-preserved : goal.loop-key_index-preserved
loop-key_index-preserved c =
    let k = get_or c.args.written.now c.loop-key_index.key_index-index 0 in
    one-key_index c.args.graph.now c.args.written.now c.args.row.now c.args.start c.args.weights.now c.loop-key_index.weights c.loop-key_index.key_index-index k
    c.lower_key.new.weights refl c.loop-key_index.invariant c.lower_key.ensures

pub returns : goal.returns
returns c =
    all-written c.args.graph.now c.args.written.now c.args.row.now c.args.start c.args.weights.now c.loop-key_index.weights c.loop-key_index.key_index-index
    (omega arith) c.loop-key_index.invariant
