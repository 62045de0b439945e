use Rattle.std.proofs.Common.{rules, sym, ◌∙◌, arith}
use Rattle.tcc_least.proofs.ReadLemmas.{AreReadsAt}
use Rattle.tcc_least.proofs.RoundLemmas.{source_led, none_led}
use Rattle.tcc_least.proofs.rounds.leads_to_source.Goals as goal

pub returns-then-causal : goal.returns-then-causal
returns-then-causal c =
    let reads = c.reads_at-read-items.result.now in
    let are : AreReadsAt c.args.graph.now c.args.to reads = record { value = c.reads_at-read-items.ensures.value; within = c.reads_at-read-items.ensures.within } in (
      (λ _. source_led c.args.graph.now c.args.from c.args.to reads are c.loop-read.read-index c.requires.to c.loop-read-test.true
          (sym c.causal.ensures ∙ c.if-causal.true)),
      (λ _. search rules),
    )

pub returns : goal.returns
returns c =
    let reads = c.reads_at-read-items.result.now in
    let are : AreReadsAt c.args.graph.now c.args.to reads = record { value = c.reads_at-read-items.ensures.value; within = c.reads_at-read-items.ensures.within } in (
      (λ e. absurd (search rules)),
      (λ found. absurd (none_led c.args.graph.now c.args.from c.args.to reads are c.loop-read.read-index (omega (arith, c.loop-read-test.false))
          c.loop-read.invariant found)),
    )
