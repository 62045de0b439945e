use Rattle.std.proofs.Common.{rules, arith}
use Rattle.std.proofs.lemmas.Bool.{false≢true}
use Rattle.tcc_lanes.proofs.MarkLemmas.{written_by}
use Rattle.tcc_judge.proofs.SourceLemmas.{none_reaches, one_reaches}
use Rattle.tcc_judge.proofs.sources.is_reaching.Goals as goal

pub returns-then-get-session : goal.returns-then-get-session
returns-then-get-session c = (
  (λ _. one_reaches c.args.graph.now c.args.gaps.now c.args.session c.args.b c.writes_at-key_index-items.result.now
      (written_by c.args.graph.now c.args.b c.writes_at-key_index-items.result.now c.writes_at-key_index-items.ensures.value c.writes_at-key_index-items.ensures.within c.requires.some)
      c.loop-key_index.key_index-index c.loop-key_index-test.true (c.writes_at-key_index-items.ensures.within c.loop-key_index.key_index-index 0 c.loop-key_index-test.true)
      (rw (← c.get.ensures, ← c.gap_of.ensures) c.if-get-session.true)),
  (λ _. search rules),
)

pub returns : goal.returns
returns c = (
  (λ e. absurd (false≢true e)),
  (λ is. absurd (none_reaches c.args.graph.now c.args.gaps.now c.args.session c.args.b c.writes_at-key_index-items.result.now
      (written_by c.args.graph.now c.args.b c.writes_at-key_index-items.result.now c.writes_at-key_index-items.ensures.value c.writes_at-key_index-items.ensures.within c.requires.some)
      c.loop-key_index.key_index-index (omega (arith, c.loop-key_index-test.false)) c.loop-key_index.invariant is)),
)
