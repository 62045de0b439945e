use Rattle.std.proofs.Common.{◌≡◌, ◌<◌, ◌≤◌, ℕ}
use Rattle.tcc_order.specs.private.ByKey.{key_index_in}
use Rattle.tcc_order.proofs.causal_links.end_of_key.Given as goal

abbrev pub invariant-loop-index : goal.invariant-loop-index
invariant-loop-index l = (k : ℕ) → l.start ≤ k → k < l.index → key_index_in l.readings k ≡ key_index_in l.readings l.start
