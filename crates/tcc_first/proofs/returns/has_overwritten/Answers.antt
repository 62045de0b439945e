use Rattle.std.proofs.Common.{below_more, rules, sym, ◌∙◌, arith}
use Rattle.std.proofs.lemmas.Bool.{false≢true}
use Rattle.tcc_graph.specs.Keys.{key_at}
use Rattle.std.specs.Prelude.{slice_index}
use Rattle.tcc_first.proofs.ReturnLemmas.{reading_at, none_overwritten}
use Rattle.tcc_first.proofs.returns.has_overwritten.Goals as goal

pub is_overwritten-requires-clause-reader : goal.is_overwritten-requires-clause-reader
is_overwritten-requires-clause-reader c =
    (reading_at c.args.graph.now c.args.from c.readings_at.result.0.now c.readings_at.result.1.now c.readings_at.ensures c.loop-index.index
    c.loop-index-test.true).1.1

pub is_overwritten-requires-clause-read : goal.is_overwritten-requires-clause-read
is_overwritten-requires-clause-read c =
    (reading_at c.args.graph.now c.args.from c.readings_at.result.0.now c.readings_at.result.1.now c.readings_at.ensures c.loop-index.index
    c.loop-index-test.true).1

pub returns-then-is_overwritten : goal.returns-then-is_overwritten
returns-then-is_overwritten c =
    let h = c.args.graph.now in (
      (λ _. (
        key_at h (slice_index c.readings_at.result.1.now c.loop-index.index),
        slice_index c.readings_at.result.0.now c.loop-index.index,
        (reading_at h c.args.from c.readings_at.result.0.now c.readings_at.result.1.now c.readings_at.ensures c.loop-index.index c.loop-index-test.true).1,
        c.is_overwritten.ensures.0 c.if-is_overwritten.true,
      )),
      (λ _. search rules),
    )

pub loop-index-preserved : goal.loop-index-preserved
loop-index-preserved c = below_more _ _ c.loop-index.invariant (λ is. false≢true (sym c.if-is_overwritten.false ∙ c.is_overwritten.ensures.1 is))

pub returns : goal.returns
returns c = (
  (λ e. absurd (false≢true e)),
  (λ found. absurd (none_overwritten c.args.graph.now c.args.from c.readings_at.result.0.now c.readings_at.result.1.now c.readings_at.ensures
      c.loop-index.index (omega (arith, c.loop-index-test.false)) c.loop-index.invariant found)),
)
