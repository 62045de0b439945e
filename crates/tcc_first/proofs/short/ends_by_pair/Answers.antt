use Rattle.std.proofs.Common.{sym, ◌∙◌}
use Rattle.tcc_graph.proofs.Pairs.{pair_kinds}
use Rattle.tcc_first.proofs.short.ends_by_pair.Goals as goal

pub returns-then-causal : goal.returns-then-causal
returns-then-causal c = (
  (λ e. (pair_kinds c.args.graph.now c.args.from c.args.end (sym c.causal.ensures ∙ c.if-causal.true), c.is_way.ensures.0 e)),
  (λ w. c.is_way.ensures.1 w.1),
)
