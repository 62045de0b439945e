use Rattle.std.proofs.Common.{rules, sym, ◌∙◌, arith}
use Rattle.std.proofs.lemmas.Bool.{false≢true}
use Rattle.tcc_first.proofs.TwoStepLemmas.{init_led, none_from_init}
use Rattle.tcc_first.proofs.WayLemmas.{reader_at}
use Rattle.tcc_first.proofs.two_steps.init_leads_to_reader.Goals as goal

pub returns-then-causal : goal.returns-then-causal
returns-then-causal c = (
  (λ _. init_led c.args.graph.now c.args.source c.readings_at.result.0.now c.readings_at.result.1.now c.readings_at.ensures c.loop-reader.reader-index
      c.loop-reader-test.true (sym c.causal.ensures ∙ c.if-causal.true)),
  (λ _. search rules),
)

pub returns : goal.returns
returns c = (
  (λ e. absurd (false≢true e)),
  (λ found. absurd (none_from_init c.args.graph.now c.args.source c.readings_at.result.0.now c.readings_at.result.1.now c.readings_at.ensures
      c.loop-reader.reader-index (omega (arith, c.loop-reader-test.false)) c.loop-reader.invariant found)),
)

pub causal-requires-clause-to : goal.causal-requires-clause-to
causal-requires-clause-to c =
    (reader_at c.args.graph.now c.args.source c.readings_at.result.0.now c.readings_at.result.1.now c.readings_at.ensures c.loop-reader.reader-index
    c.loop-reader-test.true).1.1
