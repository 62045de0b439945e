use Rattle.std.proofs.Common.{rules, arith}
use Rattle.std.proofs.lemmas.Bool.{false≢true}
use Rattle.tcc_least.proofs.ReadLemmas.{AreReadsAt}
use Rattle.tcc_lanes.proofs.IntoInit.{read_there, none_there}
use Rattle.tcc_lanes.proofs.into_init.reads_initial.Goals as goal

pub returns-then-shares : goal.returns-then-shares
returns-then-shares c =
    let reads = c.reads_at-read-items.result.now in
    let are : AreReadsAt c.args.graph.now c.args.reader reads = record { value = c.reads_at-read-items.ensures.value; within = c.reads_at-read-items.ensures.within } in (
      (λ _. read_there c.args.graph.now c.args.key_lanes.now c.args.word c.args.reader reads are c.requires.reader c.loop-read.read-index c.loop-read-test.true
          c.if-read-eq0.true (c.shares.ensures.0 c.if-shares.true)),
      (λ _. search rules),
    )

pub returns : goal.returns
returns c =
    let reads = c.reads_at-read-items.result.now in
    let are : AreReadsAt c.args.graph.now c.args.reader reads = record { value = c.reads_at-read-items.ensures.value; within = c.reads_at-read-items.ensures.within } in (
      (λ e. absurd (false≢true e)),
      (λ is. absurd (none_there c.args.graph.now c.args.key_lanes.now c.args.word c.args.reader reads are c.requires.reader c.loop-read.read-index
          (omega (arith, c.loop-read-test.false)) c.loop-read.invariant is)),
    )
