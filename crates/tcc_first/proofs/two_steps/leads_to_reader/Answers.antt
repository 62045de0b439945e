use Rattle.std.proofs.Common.{below_more, rules, sym, ◌∙◌, arith}
use Rattle.std.proofs.lemmas.Bool.{false≢true}
use Rattle.tcc_first.proofs.TwoStepLemmas.{session_led, read_led, none_led}
use Rattle.tcc_first.proofs.two_steps.leads_to_reader.Goals as goal

pub returns-then-has_within : goal.returns-then-has_within
returns-then-has_within c = (
  (λ _. session_led c.args.graph.now c.args.source c.args.key_index c.readings_of.result.0.now c.readings_of.result.1.now c.readers_of-readers.result.now
      c.readings_of.ensures c.readers_of-readers.ensures.each c.args.from c.args.later.0 c.args.later.1 c.requires.later
      (c.has_within.ensures.0 c.if-has_within.true)),
  (λ _. search rules),
)

pub returns-then-has_number : goal.returns-then-has_number
returns-then-has_number c = (
  (λ _. read_led c.args.graph.now c.args.source c.args.key_index c.readings_of.result.0.now c.readings_of.result.1.now c.readers_of-readers.result.now
      c.readings_of.ensures c.readers_of-readers.ensures.each c.args.from c.args.later.0 c.args.later.1 c.requires.later
      c.readings_at.result.0.now c.readings_at.result.1.now c.readings_at.ensures c.loop-reader.reader-index c.loop-reader-test.true
      (c.has_number.ensures.0 c.if-has_number.true)),
  (λ _. search rules),
)

pub returns : goal.returns
returns c = (
  (λ e. absurd (false≢true e)),
  (λ found. absurd (none_led c.args.graph.now c.args.source c.args.key_index c.readings_of.result.0.now c.readings_of.result.1.now
      c.readers_of-readers.result.now c.readings_of.ensures c.readers_of-readers.ensures.each c.args.from c.args.later.0 c.args.later.1 c.requires.later
      c.readings_at.result.0.now c.readings_at.result.1.now c.readings_at.ensures
      (λ there. false≢true (sym c.if-has_within.false ∙ c.has_within.ensures.1 there))
      c.loop-reader.reader-index (omega (arith, c.loop-reader-test.false)) c.loop-reader.invariant found)),
)

pub loop-reader-preserved : goal.loop-reader-preserved
loop-reader-preserved c = below_more _ _ c.loop-reader.invariant (λ is. false≢true (sym c.if-has_number.false ∙ c.has_number.ensures.1 is))
