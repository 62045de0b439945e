use Rattle.std.proofs.Common.{below_more, rules, sym, ◌∙◌, arith}
use Rattle.std.proofs.lemmas.Bool.{false≢true}
use Rattle.tcc_first.proofs.TwoStepLemmas.{written_two_step, none_written}
use Rattle.tcc_first.proofs.two_steps.is_two_step.Goals as goal

pub returns-then-from-to : goal.returns-then-from-to
returns-then-from-to c = ((λ e. absurd (false≢true e)), (λ (x, d, (other, read, writer), pair). absurd (other c.if-from-to.true)))

pub returns-then-leads_to_reader : goal.returns-then-leads_to_reader
returns-then-leads_to_reader c = (
  (λ _. written_two_step c.args.graph.now c.args.from c.args.to c.writes_at-key_index-items.result.now c.writes_at-key_index-items.ensures.value
      c.loop-key_index.key_index-index c.requires.from c.loop-key_index-test.true c.if-from-to.false
      (c.leads_to_reader.ensures.0 c.if-leads_to_reader.true)),
  (λ _. search rules),
)

pub returns : goal.returns
returns c = (
  (λ e. absurd (false≢true e)),
  (λ found. absurd (none_written c.args.graph.now c.args.from c.args.to c.writes_at-key_index-items.result.now c.writes_at-key_index-items.ensures.value
      c.loop-key_index.key_index-index (omega (arith, c.if-from-eq0.false)) (omega (arith, c.loop-key_index-test.false)) c.loop-key_index.invariant found)),
)

pub loop-key_index-preserved : goal.loop-key_index-preserved
loop-key_index-preserved c = below_more _ _ c.loop-key_index.invariant (λ is. false≢true (sym c.if-leads_to_reader.false ∙ c.leads_to_reader.ensures.1 is))
