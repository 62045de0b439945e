use Rattle.std.proofs.Common.{◌≡◌, ◌<◌, ℕ, length, slice_index}
use Rattle.tcc_graph.specs.Tables.{row_of}
use Rattle.tcc_clocks.specs.declared.latest.TheConstants.{WIDE}
use Rattle.tcc_order.specs.private.ByKey.{IsTop}
use Rattle.tcc_order.proofs.causal_links.top_of.Given as goal

abbrev pub invariant-loop-index : goal.invariant-loop-index
invariant-loop-index l =
    (length l.top ≡ WIDE) × ((k : ℕ) → k < WIDE → IsTop l.table l.readings l.start l.index (row_of l.table l.a) k (slice_index l.top k))
