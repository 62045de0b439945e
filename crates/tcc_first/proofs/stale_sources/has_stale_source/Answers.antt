use Rattle.std.proofs.Common.{sym, ◌∙◌}
use Rattle.std.proofs.lemmas.Bool.{false≢true}
use Rattle.tcc_first.proofs.StaleLemmas.{by_session, stale_or}
use Rattle.tcc_first.proofs.stale_sources.has_stale_source.Goals as goal

pub returns-then-has_stale_session : goal.returns-then-has_stale_session
returns-then-has_stale_session c = (
  (λ _. by_session c.args.graph.now c.args.start (c.has_stale_session.ensures.0 c.if-has_stale_session.true)),
  (λ _. c.if-has_stale_session.true),
)

pub returns-else-has_stale_session : goal.returns-else-has_stale_session
returns-else-has_stale_session c =
    stale_or c.args.graph.now c.args.start c.has_stale_read.result
    (λ found. false≢true (sym c.if-has_stale_session.false ∙ c.has_stale_session.ensures.1 found)) c.has_stale_read.ensures
