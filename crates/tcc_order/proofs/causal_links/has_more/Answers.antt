use Rattle.std.proofs.Common.{rules, inr}
use Rattle.tcc_order.proofs.causal_links.has_more.Goals as goal

pub returns : goal.returns
returns c = λ f. inr (c.is_like_before.ensures (search rules))
