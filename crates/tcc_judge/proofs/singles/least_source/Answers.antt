use Rattle.std.proofs.Common.{arith}
use Rattle.std.proofs.lemmas.Bool.{iff_false}
use Rattle.tcc_least.proofs.ReadLemmas.{AreReadsAt}
use Rattle.tcc_judge.proofs.SingleLemmas.{source_none, source_more, source_same, source_all}
use Rattle.tcc_judge.proofs.singles.least_source.Goals.{then-position-positions+then-is_among, else-position-positions, else-position-positions-via-then-position-positions+else-is_among, else-position-positions-via-else-position-positions}
use Rattle.tcc_judge.proofs.singles.least_source.Goals as goal

pub loop-read-init : goal.loop-read-init
loop-read-init c = source_none c.args.positions.now c.args.writers.now c.args.position c.reads_at-read-items.result.now

pub loop-read-preserved : goal.loop-read-preserved
loop-read-preserved c =
    let reads = c.reads_at-read-items.result.now in
    let positions = c.args.positions.now in
    let writers = c.args.writers.now in
    elim c.if-position-positions.branch [
      | then-position-positions+then-is_among w ↦ rw (w.least-is, w.min-least.ensures)
          (source_more positions writers c.args.position reads c.loop-read.read-index c.loop-read.least w.if-position-positions.true
          (w.is_among.ensures.0 w.if-is_among.true) c.loop-read.invariant)
      | else-position-positions w ↦ rw w.least-is
          (source_same positions writers c.args.position reads c.loop-read.read-index c.loop-read.least
          (λ behind writer. elim w.else-position-positions.branch [
            | else-position-positions-via-then-position-positions+else-is_among v ↦ iff_false v.is_among.ensures v.if-is_among.false writer
            | else-position-positions-via-else-position-positions v ↦ omega (arith, v.if-position-positions.false, behind)
          ]) c.loop-read.invariant)
    ]

pub returns : goal.returns
returns c =
    let reads = c.reads_at-read-items.result.now in
    let are : AreReadsAt c.args.graph.now c.args.reader reads = record { value = c.reads_at-read-items.ensures.value; within = c.reads_at-read-items.ensures.within } in
    source_all c.args.positions.now c.args.writers.now c.args.position reads c.args.graph.now c.args.reader are c.requires.reader c.loop-read.read-index
    c.loop-read.least (omega (arith, c.loop-read-test.false)) c.loop-read.invariant
