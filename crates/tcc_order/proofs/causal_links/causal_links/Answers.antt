use Rattle.std.proofs.lemmas.Result.{IfOk-weaker}
use Rattle.tcc_order.proofs.ShareLemmas.{all_links}
use Rattle.tcc_order.proofs.causal_links.causal_links.Goals as goal

pub links_from-requires : goal.links_from-requires
links_from-requires c = c.in_ok-sweep.ensures.sweep

pub returns : goal.returns
returns c =
    IfOk-weaker c.links_from.result _ _ (λ kept are. all_links c.args.graph.now _ c.sessions.ensures.owners c.div_ceil.result c.div_ceil.ensures kept are)
    (rw c.in_ok-sweep.ensures.graph at c.links_from.ensures)
