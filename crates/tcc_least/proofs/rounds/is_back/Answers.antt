use Rattle.std.proofs.Common.{rules, inl, inr, sym, ◌∙◌, arith}
use Rattle.tcc_graph.proofs.Pairs.{pair_kinds}
use Rattle.tcc_least.proofs.rounds.is_back.Goals as goal

pub returns-then-causal : goal.returns-then-causal
returns-then-causal c = (
  (λ _. inr (inl (omega (arith, c.if-below-le2.false), pair_kinds c.args.graph.now c.args.reader c.args.source (sym c.causal.ensures ∙ c.if-causal.true)))),
  (λ _. search rules),
)
