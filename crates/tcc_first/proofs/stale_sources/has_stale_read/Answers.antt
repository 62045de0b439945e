use Rattle.std.proofs.Common.{below_more, rules, sym, ◌∙◌, arith}
use Rattle.std.proofs.lemmas.Bool.{false≢true}
use Rattle.tcc_first.proofs.StaleLemmas.{stale_read, no_stale_read}
use Rattle.tcc_first.proofs.WayLemmas.{reader_at}
use Rattle.tcc_first.proofs.stale_sources.has_stale_read.Goals as goal

pub reads_overwritten-requires-clause-reader : goal.reads_overwritten-requires-clause-reader
reads_overwritten-requires-clause-reader c =
    (reader_at c.args.graph.now c.args.start c.readings_at.result.0.now c.readings_at.result.1.now c.readings_at.ensures c.loop-reader.reader-index
    c.loop-reader-test.true).1.1

pub returns-then-reads_overwritten : goal.returns-then-reads_overwritten
returns-then-reads_overwritten c = (
  (λ _. stale_read c.args.graph.now c.args.start c.readings_at.result.0.now c.readings_at.result.1.now c.readings_at.ensures c.loop-reader.reader-index
      c.loop-reader-test.true (c.reads_overwritten.ensures.0 c.if-reads_overwritten.true)),
  (λ _. search rules),
)

pub loop-reader-preserved : goal.loop-reader-preserved
loop-reader-preserved c = below_more _ _ c.loop-reader.invariant (λ is. false≢true (sym c.if-reads_overwritten.false ∙ c.reads_overwritten.ensures.1 is))

pub returns : goal.returns
returns c = (
  (λ e. absurd (false≢true e)),
  (λ found. absurd (no_stale_read c.args.graph.now c.args.start c.readings_at.result.0.now c.readings_at.result.1.now c.readings_at.ensures
      c.loop-reader.reader-index (omega (arith, c.loop-reader-test.false)) c.loop-reader.invariant found)),
)
