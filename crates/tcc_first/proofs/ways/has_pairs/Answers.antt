use Rattle.std.proofs.Common.{inl, inr, sym, ◌∙◌}
use Rattle.tcc_graph.proofs.Pairs.{pair_kinds, pair_from_kinds}
use Rattle.tcc_first.proofs.WayLemmas.{one_pair}
use Rattle.tcc_first.proofs.ways.has_pairs.Goals as goal

pub returns-in-1 : goal.returns-in-1
returns-in-1 c = (
  (λ e. inr (inl (c.in-1.is, pair_kinds c.args.graph.now c.args.from c.args.to (sym c.causal.ensures ∙ e)))),
  (λ pairs. c.causal.ensures ∙ pair_from_kinds c.args.graph.now c.args.from c.args.to
      (one_pair c.args.graph.now c.args.steps c.args.from c.args.to c.in-1.is pairs)),
)
