use Rattle.std.proofs.Common.{below_more, arith}
use Rattle.tcc_least.proofs.ReadLemmas.{AreReadsAt}
use Rattle.tcc_least.proofs.PlaceLemmas.{better_on}
use Rattle.tcc_least.proofs.ReturnLemmas.{read_at, between_all}
use Rattle.tcc_least.proofs.returning.between.Goals as goal

pub between_read-least-requires-clause-is : goal.between_read-least-requires-clause-is
between_read-least-requires-clause-is c =
    let reads = c.reads_at-read-items.result.now in
    let are : AreReadsAt c.args.graph.now c.args.reader reads
    = record { value = c.reads_at-read-items.ensures.value; within = c.reads_at-read-items.ensures.within } in
    read_at c.args.graph.now c.args.reader reads are c.requires.reader.2 c.loop-read.read-index c.loop-read-test.true

pub loop-read-preserved : goal.loop-read-preserved
loop-read-preserved c = (
  better_on c.args.graph.now c.args.best c.loop-read.least c.between_read-least.result c.loop-read.invariant.0 c.between_read-least.ensures.more,
  below_more _ _ (λ k less b is. c.between_read-least.ensures.more.kept b _ (c.loop-read.invariant.1 k less b is)) c.between_read-least.ensures.found,
)

pub returns-clause-found : goal.returns-clause-found
returns-clause-found c =
    let reads = c.reads_at-read-items.result.now in
    let are : AreReadsAt c.args.graph.now c.args.reader reads
    = record { value = c.reads_at-read-items.ensures.value; within = c.reads_at-read-items.ensures.within } in
    between_all c.args.graph.now c.args.reader reads are c.requires.reader.2 c.loop-read.read-index c.loop-read.least (omega (arith, c.loop-read-test.false))
    c.loop-read.invariant.1
