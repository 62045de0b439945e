use Rattle.std.proofs.Common.{rules, inr, sym, ◌∙◌, arith}
use Rattle.tcc_least.proofs.ReadLemmas.{AreReadsAt}
use Rattle.tcc_least.proofs.RoundLemmas.{source_led, none_led}
use Rattle.tcc_first.proofs.WayLemmas.{between_or}
use Rattle.tcc_first.proofs.ways.has_between.Goals as goal

pub returns-then-causal : goal.returns-then-causal
returns-then-causal c =
    let reads = c.reads_at-read-items.result.now in
    let are : AreReadsAt c.args.graph.now c.args.to reads = record { value = c.reads_at-read-items.ensures.value; within = c.reads_at-read-items.ensures.within } in (
      (λ _.
          let (d, read, pair) = source_led c.args.graph.now c.args.from c.args.to reads are c.loop-read.read-index c.requires.to c.loop-read-test.true
          (sym c.causal.ensures ∙ c.if-causal.true) in
          (d, pair, inr read)),
      (λ _. search rules),
    )

pub returns : goal.returns
returns c =
    let reads = c.reads_at-read-items.result.now in
    let are : AreReadsAt c.args.graph.now c.args.to reads = record { value = c.reads_at-read-items.ensures.value; within = c.reads_at-read-items.ensures.within } in
    between_or c.args.graph.now c.args.from c.args.to c.leads_before.result
    (none_led c.args.graph.now c.args.from c.args.to reads are c.loop-read.read-index (omega (arith, c.loop-read-test.false)) c.loop-read.invariant)
    c.leads_before.ensures
