use Rattle.std.proofs.Common.{arith, refl}
use Rattle.tcc_check.proofs.LinksFrom.{no-reader, one-reader, all-readers}
use Rattle.tcc_check.proofs.links_from.lower_source.Goals as goal

pub loop-reader-init : goal.loop-reader-init
loop-reader-init c = no-reader c.args.source c.args.readers.now c.args.row.now c.args.weights.now c.args.weights.now

pub loop-reader-preserved : goal.loop-reader-preserved
loop-reader-preserved c =
    rw c.min.ensures (one-reader c.args.source c.args.readers.now c.args.row.now c.args.weights.now c.loop-reader.weights c.loop-reader.reader-index _ refl
    (omega (arith, c.requires.source, c.loop-reader.auto.weights)) c.loop-reader.invariant)

pub returns : goal.returns
returns c =
    all-readers c.args.source c.args.readers.now c.args.row.now c.args.weights.now c.loop-reader.weights c.loop-reader.reader-index
    (omega arith) c.loop-reader.invariant
