use Rattle.std.proofs.Common.{arith, refl, get_or}
use Rattle.tcc_check.proofs.readings.lower_pairs.Goals.{then-source-start, else-source-start}
use Rattle.tcc_check.proofs.ByKey.{no-pair, pair-skipped, pair-lowered, all-pairs}
use Rattle.tcc_check.proofs.readings.lower_pairs.Goals as goal

pub loop-index-init : goal.loop-index-init
loop-index-init c = no-pair c.args.sources.now c.args.readers.now c.args.row.now c.args.start c.args.weights.now c.args.weights.now

pub loop-index-preserved : goal.loop-index-preserved
loop-index-preserved c =
    let below = c.requires.sources c.loop-index.index 0 c.loop-index-test.true in
    elim c.if-source-start.branch [
      | then-source-start w ↦ rw (w.weights-is, w.min.ensures)
          (pair-lowered c.args.sources.now c.args.readers.now c.args.row.now c.args.start c.args.weights.now c.loop-index.weights c.loop-index.index
          (get_or c.args.sources.now c.loop-index.index 0) _ refl w.if-source-start.true refl
          (omega (arith, below, c.loop-index.auto.weights)) c.loop-index.invariant)
      | else-source-start w ↦ rw w.weights-is (pair-skipped c.args.sources.now c.args.readers.now c.args.row.now c.args.start c.args.weights.now
          c.loop-index.weights c.loop-index.index w.if-source-start.false c.loop-index.invariant)
    ]

pub returns : goal.returns
returns c =
    all-pairs c.args.sources.now c.args.readers.now c.args.row.now c.args.start c.args.weights.now c.loop-index.weights c.loop-index.index
    (omega arith) c.loop-index.invariant
