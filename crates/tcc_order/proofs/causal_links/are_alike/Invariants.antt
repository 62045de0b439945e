use Rattle.std.proofs.Common.{◌<◌, ℕ}
use Rattle.tcc_order.specs.private.ByKey.{AreAlikeAt}
use Rattle.tcc_order.proofs.causal_links.are_alike.Given as goal

abbrev pub invariant-loop-index : goal.invariant-loop-index
invariant-loop-index l = (k : ℕ) → k < l.index → AreAlikeAt l.table l.readings l.others k
