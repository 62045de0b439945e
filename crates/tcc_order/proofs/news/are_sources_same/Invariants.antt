use Rattle.std.proofs.Common.{◌≡◌, ◌<◌, ℕ, slice_index}
use Rattle.tcc_graph.specs.Tables.{row_of}
use Rattle.tcc_order.proofs.news.are_sources_same.Given as goal

abbrev pub invariant-loop-index : goal.invariant-loop-index
invariant-loop-index l = (k : ℕ) → 0 < k → k < l.index → row_of l.table (slice_index l.found k) ≡ row_of l.table l.c
