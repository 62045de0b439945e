use Rattle.std.proofs.Common.{rules, arith}
use Rattle.std.proofs.lemmas.Bool.{false≢true}
use Rattle.tcc_least.proofs.ReadLemmas.{AreReadsAt}
use Rattle.tcc_first.proofs.StaleLemmas.{stale_session, no_stale_session}
use Rattle.tcc_first.proofs.stale_sources.has_stale_session.Goals as goal

pub returns-then-is_session_two_step : goal.returns-then-is_session_two_step
returns-then-is_session_two_step c =
    let reads = c.reads_at-read-items.result.now in
    let are : AreReadsAt c.args.graph.now c.args.start reads = record { value = c.reads_at-read-items.ensures.value; within = c.reads_at-read-items.ensures.within } in (
      (λ _. stale_session c.args.graph.now c.args.start reads are c.requires c.loop-read.read-index c.loop-read-test.true c.if-start-read.true
          (c.is_session_two_step.ensures.0 c.if-is_session_two_step.true)),
      (λ _. search rules),
    )

pub returns : goal.returns
returns c =
    let reads = c.reads_at-read-items.result.now in
    let are : AreReadsAt c.args.graph.now c.args.start reads = record { value = c.reads_at-read-items.ensures.value; within = c.reads_at-read-items.ensures.within } in (
      (λ e. absurd (false≢true e)),
      (λ found. absurd (no_stale_session c.args.graph.now c.args.start reads are c.requires c.loop-read.read-index (omega (arith, c.loop-read-test.false))
          c.loop-read.invariant found)),
    )
