use Rattle.std.proofs.Common.{◌≤◌, ◌-◌, length}
use Rattle.tcc_graph.specs.Tables.{row_of}
use Rattle.tcc_order.specs.private.CausalLinks.{AreLatestPast, IsOverwritten}
use Rattle.tcc_order.proofs.ByKey.{IsReadBefore}
use Rattle.tcc_order.proofs.causal_links.needed.Given as goal

abbrev pub invariant-loop-start : goal.invariant-loop-start
invariant-loop-start l =
    (l.start ≤ length l.readings)
    × AreLatestPast l.graph (IsOverwritten l.graph (IsReadBefore l.graph l.readings l.start) l.a) l.from (row_of l.table l.a) l.need

abbrev pub decreases-loop-start : goal.decreases-loop-start
decreases-loop-start l = length l.readings - l.start
