use Rattle.std.proofs.Common.{below_more, rules, sym, ◌∙◌, arith}
use Rattle.std.proofs.lemmas.Bool.{false≢true}
use Rattle.tcc_least.proofs.ReadLemmas.{AreReadsAt}
use Rattle.tcc_least.proofs.ReturnLemmas.{read_at}
use Rattle.tcc_first.proofs.StaleLemmas.{this_read, no_read}
use Rattle.tcc_first.proofs.stale_sources.reads_overwritten.Goals as goal

pub overwrites_source-requires-clause-is : goal.overwrites_source-requires-clause-is
overwrites_source-requires-clause-is c =
    let reads = c.reads_at-read-items.result.now in
    let are : AreReadsAt c.args.graph.now c.args.reader reads = record { value = c.reads_at-read-items.ensures.value; within = c.reads_at-read-items.ensures.within } in
    read_at c.args.graph.now c.args.reader reads are c.requires.reader c.loop-read.read-index c.loop-read-test.true

pub returns-then-overwrites_source : goal.returns-then-overwrites_source
returns-then-overwrites_source c =
    let reads = c.reads_at-read-items.result.now in
    let are : AreReadsAt c.args.graph.now c.args.reader reads = record { value = c.reads_at-read-items.ensures.value; within = c.reads_at-read-items.ensures.within } in (
      (λ _. this_read c.args.graph.now c.args.start c.args.reader reads are c.requires.reader c.loop-read.read-index c.loop-read-test.true
          (c.overwrites_source.ensures.0 c.if-overwrites_source.true)),
      (λ _. search rules),
    )

pub loop-read-preserved : goal.loop-read-preserved
loop-read-preserved c = below_more _ _ c.loop-read.invariant (λ is. false≢true (sym c.if-overwrites_source.false ∙ c.overwrites_source.ensures.1 is))

pub returns : goal.returns
returns c =
    let reads = c.reads_at-read-items.result.now in
    let are : AreReadsAt c.args.graph.now c.args.reader reads = record { value = c.reads_at-read-items.ensures.value; within = c.reads_at-read-items.ensures.within } in (
      (λ e. absurd (false≢true e)),
      (λ found. absurd (no_read c.args.graph.now c.args.start c.args.reader reads are c.requires.reader c.loop-read.read-index
          (omega (arith, c.loop-read-test.false)) c.loop-read.invariant found)),
    )
