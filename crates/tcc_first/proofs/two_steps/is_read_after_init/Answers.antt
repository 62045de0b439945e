use Rattle.std.proofs.Common.{rules, sym, ◌∙◌, arith}
use Rattle.std.proofs.lemmas.Bool.{false≢true}
use Rattle.tcc_first.proofs.TwoStepLemmas.{init_after, none_after_init}
use Rattle.tcc_first.proofs.WayLemmas.{reader_at}
use Rattle.tcc_first.proofs.two_steps.is_read_after_init.Goals as goal

pub returns-then-session : goal.returns-then-session
returns-then-session c = (
  (λ _. init_after c.args.graph.now c.args.source c.readings_at.result.0.now c.readings_at.result.1.now c.readings_at.ensures c.loop-reader.reader-index
      c.loop-reader-test.true (sym c.session.ensures ∙ c.if-session.true)),
  (λ _. search rules),
)

pub returns : goal.returns
returns c = (
  (λ e. absurd (false≢true e)),
  (λ found. absurd (none_after_init c.args.graph.now c.args.source c.readings_at.result.0.now c.readings_at.result.1.now c.readings_at.ensures
      c.loop-reader.reader-index (omega (arith, c.loop-reader-test.false)) c.loop-reader.invariant found)),
)

pub session-requires-clause-to : goal.session-requires-clause-to
session-requires-clause-to c =
    (reader_at c.args.graph.now c.args.source c.readings_at.result.0.now c.readings_at.result.1.now c.readings_at.ensures c.loop-reader.reader-index
    c.loop-reader-test.true).1.1
