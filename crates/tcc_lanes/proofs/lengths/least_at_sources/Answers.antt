use Rattle.std.proofs.Common.{arith}
use Rattle.tcc_least.proofs.ReadLemmas.{AreReadsAt}
use Rattle.tcc_lanes.specs.private.Lowering.{steps_at}
use Rattle.tcc_lanes.proofs.LengthLemmas.{least_in_all, least_in_more, least_in_none}
use Rattle.tcc_lanes.proofs.lengths.least_at_sources.Goals as goal

pub loop-read-init : goal.loop-read-init
loop-read-init c = least_in_none (steps_at c.args.level c.args.from c.args.lengths.now) c.reads_at-read-items.result.now

pub loop-read-preserved : goal.loop-read-preserved
loop-read-preserved c =
    least_in_more (steps_at c.args.level c.args.from c.args.lengths.now) c.reads_at-read-items.result.now c.loop-read.read-index c.loop-read.least
    c.min-least.result (omega (arith, c.min-least.ensures, c.steps_at.ensures)) c.loop-read.invariant

pub returns : goal.returns
returns c =
    let reads = c.reads_at-read-items.result.now in
    let are : AreReadsAt c.args.graph.now c.args.v reads = record { value = c.reads_at-read-items.ensures.value; within = c.reads_at-read-items.ensures.within } in
    least_in_all (steps_at c.args.level c.args.from c.args.lengths.now) reads c.args.graph.now c.args.v are c.requires.below c.loop-read.read-index
    c.loop-read.least (omega (arith, c.loop-read-test.false)) c.loop-read.invariant
