use Rattle.std.proofs.Common.{arith}
use Rattle.tcc_judge.proofs.ReadingLemmas.{reader_below}
use Rattle.tcc_judge.proofs.PositionLemmas.{turned_none, turned_more, turned_same, turned_all}
use Rattle.tcc_judge.proofs.first_backward_read.least_turned.Goals.{then-positions-reader, else-positions-reader}
use Rattle.tcc_judge.proofs.first_backward_read.least_turned.Goals as goal

pub loop-reader-init : goal.loop-reader-init
loop-reader-init c = turned_none c.readings_at.result.0.now c.args.positions.now c.args.a

pub bounds-positions-reader : goal.bounds-positions-reader
bounds-positions-reader c =
    omega (
      arith,
      reader_below c.args.graph.now c.args.a c.readings_at.result.0.now c.readings_at.result.1.now c.readings_at.ensures c.loop-reader.reader-index
          c.loop-reader-test.true,
      c.requires.long,
    )

pub loop-reader-preserved : goal.loop-reader-preserved
loop-reader-preserved c =
    let readers = c.readings_at.result.0.now in
    let positions = c.args.positions.now in
    elim c.if-positions-reader.branch [
      | then-positions-reader w ↦ rw (w.least-is, w.min-least.ensures)
          (turned_more readers positions c.args.a c.loop-reader.reader-index c.loop-reader.least c.loop-reader-test.true w.if-positions-reader.true
          c.loop-reader.invariant)
      | else-positions-reader w ↦ rw w.least-is
          (turned_same readers positions c.args.a c.loop-reader.reader-index c.loop-reader.least c.loop-reader-test.true w.if-positions-reader.false
          c.loop-reader.invariant)
    ]

pub returns : goal.returns
returns c =
    turned_all c.args.graph.now c.args.positions.now c.args.a c.readings_at.result.0.now c.readings_at.result.1.now c.loop-reader.reader-index c.loop-reader.least
    c.readings_at.ensures c.loop-reader-test.false c.loop-reader.invariant
