use Rattle.std.proofs.Common.{arith, get_or}
use Rattle.tcc_least.proofs.ReadLemmas.{AreReadsAt}
use Rattle.tcc_lanes.proofs.Spread.{in_all}
use Rattle.tcc_lanes.proofs.WordLemmas.{joined_more, joined_none}
use Rattle.tcc_lanes.proofs.expand.at_sources.Goals as goal

pub loop-read-init : goal.loop-read-init
loop-read-init c = joined_none c.args.marks.now (λ k. (get_or c.reads_at-read-items.result.now k (0, 0)).1)

pub loop-read-preserved : goal.loop-read-preserved
loop-read-preserved c =
    joined_more c.args.marks.now (λ k. (get_or c.reads_at-read-items.result.now k (0, 0)).1) c.loop-read.read-index c.loop-read.word c.loop-read.invariant

pub returns : goal.returns
returns c =
    let reads = c.reads_at-read-items.result.now in
    let are : AreReadsAt c.args.graph.now c.args.v reads = record { value = c.reads_at-read-items.ensures.value; within = c.reads_at-read-items.ensures.within } in
    in_all c.args.graph.now c.args.marks.now c.args.v reads are c.requires.below c.loop-read.read-index c.loop-read.word (omega (arith, c.loop-read-test.false))
    c.loop-read.invariant
