use Rattle.std.proofs.Common.{rules, sym, ◌∙◌}
use Rattle.std.proofs.lemmas.Bool.{false≢true, ne_eqb}
use Rattle.tcc_first.proofs.Around.{by_pairs, by_stale, around_or, none_around_by}
use Rattle.tcc_first.proofs.starts.is_around.Goals as goal

pub returns-then-is_around_by_pairs : goal.returns-then-is_around_by_pairs
returns-then-is_around_by_pairs c = (
  (λ _. by_pairs c.args.graph.now c.args.steps c.args.start (c.is_around_by_pairs.ensures.0 c.if-is_around_by_pairs.true)),
  (λ _. search rules),
)

pub returns-then-has_stale_source : goal.returns-then-has_stale_source
returns-then-has_stale_source c = (
  (λ _. by_stale c.args.graph.now c.args.steps c.args.start c.if-steps-eq3.true (c.has_stale_source.ensures.0 c.if-has_stale_source.true)),
  (λ _. search rules),
)

pub returns-else-has_stale_source : goal.returns-else-has_stale_source
returns-else-has_stale_source c =
    around_or c.args.graph.now c.args.steps c.args.start c.has_return.result c.if-steps-eq3.true
    (λ found. false≢true (sym c.if-is_around_by_pairs.false ∙ c.is_around_by_pairs.ensures.1 found))
    (λ found. false≢true (sym c.if-has_stale_source.false ∙ c.has_stale_source.ensures.1 found)) c.has_return.ensures

pub returns-else-steps-eq3 : goal.returns-else-steps-eq3
returns-else-steps-eq3 c = (
  (λ e. absurd (false≢true (sym (ne_eqb c.args.steps 3 c.if-steps-eq3.false) ∙ e))),
  (λ around. absurd (none_around_by c.args.graph.now c.args.steps c.args.start
      (λ found. false≢true (sym c.if-is_around_by_pairs.false ∙ c.is_around_by_pairs.ensures.1 found)) c.if-steps-eq3.false around)),
)
