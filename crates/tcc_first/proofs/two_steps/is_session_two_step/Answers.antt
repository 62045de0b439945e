use Rattle.std.proofs.Common.{below_more, rules, sym, ◌∙◌, arith}
use Rattle.std.proofs.lemmas.Bool.{false≢true}
use Rattle.tcc_first.proofs.TwoStepLemmas.{written_session, none_written_session}
use Rattle.tcc_first.proofs.two_steps.is_session_two_step.Goals as goal

pub returns-then-from-to : goal.returns-then-from-to
returns-then-from-to c = ((λ e. absurd (false≢true e)), (λ (x, d, (other, read, writer), pair). absurd (other c.if-from-to.true)))

pub returns-then-is_read_later : goal.returns-then-is_read_later
returns-then-is_read_later c = (
  (λ _. written_session c.args.graph.now c.args.from c.args.to c.writes_at-key_index-items.result.now c.writes_at-key_index-items.ensures.value
      c.loop-key_index.key_index-index c.requires.from c.loop-key_index-test.true c.if-from-to.false
      (c.is_read_later.ensures.0 c.if-is_read_later.true)),
  (λ _. search rules),
)

pub returns : goal.returns
returns c = (
  (λ e. absurd (false≢true e)),
  (λ found. absurd (none_written_session c.args.graph.now c.args.from c.args.to c.writes_at-key_index-items.result.now
      c.writes_at-key_index-items.ensures.value c.loop-key_index.key_index-index (omega (arith, c.if-from-eq0.false))
      (omega (arith, c.loop-key_index-test.false)) c.loop-key_index.invariant found)),
)

pub loop-key_index-preserved : goal.loop-key_index-preserved
loop-key_index-preserved c = below_more _ _ c.loop-key_index.invariant (λ is. false≢true (sym c.if-is_read_later.false ∙ c.is_read_later.ensures.1 is))
