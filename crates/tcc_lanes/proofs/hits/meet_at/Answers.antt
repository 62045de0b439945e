use Rattle.std.proofs.Common.{arith}
use Rattle.tcc_least.proofs.ReadLemmas.{AreReadsAt}
use Rattle.tcc_lanes.proofs.MeetingLemmas.{met_all, met_more, met_same}
use Rattle.tcc_lanes.proofs.hits.meet_at.Goals.{then-column-found, else-column-found}
use Rattle.tcc_lanes.proofs.hits.meet_at.Goals as goal

pub loop-read-preserved : goal.loop-read-preserved
loop-read-preserved c =
    let reads = c.reads_at-read-items.result.now in
    elim c.if-column-found.branch [
      | then-column-found w ↦ rw w.found-is
          (met_more c.args.columns.now c.args.writers.now c.args.word reads c.args.found.now c.loop-read.read-index c.loop-read.found c.loop-read.invariant
          w.if-column-found.true)
      | else-column-found w ↦ rw w.found-is
          (met_same c.args.columns.now c.args.writers.now c.args.word reads c.args.found.now c.loop-read.read-index c.loop-read.found c.loop-read.invariant
          w.if-column-found.false)
    ]

pub returns-clause-each : goal.returns-clause-each
returns-clause-each c =
    let reads = c.reads_at-read-items.result.now in
    let are : AreReadsAt c.args.graph.now c.args.reader reads = record { value = c.reads_at-read-items.ensures.value; within = c.reads_at-read-items.ensures.within } in
    (met_all c.args.columns.now c.args.writers.now c.args.word reads c.args.found.now c.args.graph.now c.args.reader are c.requires.reader c.loop-read.read-index
    (omega (arith, c.loop-read-test.false)) c.loop-read.found c.loop-read.invariant).1
