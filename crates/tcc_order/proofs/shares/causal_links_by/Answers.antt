use Rattle.std.proofs.Common.{rules, ◌∙◌, ap, length}
use Rattle.std.proofs.lemmas.Result.{IfOk-weaker}
use Rattle.tcc_order.proofs.ShareLemmas.{all_shared}
use Rattle.tcc_order.proofs.shares.causal_links_by.Goals as goal

pub all_shares-requires : goal.all_shares-requires
all_shares-requires g c = (search rules, c.in_ok-sweep.ensures.sweep)

pub joined-requires : goal.joined-requires
joined-requires g c = rw (c.deref.ensures.value, ← c.in_ok-sweep.ensures.graph) c.in_ok-parts.ensures

pub returns : goal.returns
returns g c =
    IfOk-weaker c.joined.result _ _ (λ kept are. all_shared c.args.graph.now _ c.sessions.ensures.owners c.div_ceil-blocks.result
    c.div_ceil-blocks.ensures c.shares_for-count.result c.shares_for-count.ensures.some c.div_ceil.result c.div_ceil.ensures
    (length c.deref.result.now) (ap length c.deref.ensures.value ∙ c.in_ok-parts.ensures.long) kept are) c.joined.ensures
