use Rattle.std.proofs.Common.{arith, refl, get_or}
use Rattle.tcc_check.proofs.LinksFrom.{no-mark, one-mark, all-marks}
use Rattle.tcc_check.proofs.links_from.mark.Goals as goal

pub loop-reader-init : goal.loop-reader-init
loop-reader-init c = no-mark c.args.readers.now c.args.weights.now c.args.weights.now

pub loop-reader-preserved : goal.loop-reader-preserved
loop-reader-preserved c =
    let below = c.requires c.loop-reader.reader-index 0 c.loop-reader-test.true in
    one-mark c.args.readers.now c.args.weights.now c.loop-reader.weights c.loop-reader.reader-index
    (get_or c.args.readers.now c.loop-reader.reader-index 0) refl (omega (arith, below, c.loop-reader.auto.weights)) c.loop-reader.invariant

pub returns : goal.returns
returns c = all-marks c.args.readers.now c.args.weights.now c.loop-reader.weights c.loop-reader.reader-index (omega arith) c.loop-reader.invariant
