use Rattle.std.proofs.Common.{◌≡◌, ◌<◌, ℕ, length, replicate, slice_index}
use Rattle.tcc_graph.specs.Tables.{row_of}
use Rattle.tcc_clocks.specs.declared.latest.TheConstants.{WIDE}
use Rattle.tcc_order.proofs.block_start.zeros_before.Given as goal

abbrev pub invariant-loop-position : goal.invariant-loop-position
invariant-loop-position l =
    (length l.table ≡ length l.initial.table)
    × (row_of l.table l.first ≡ replicate WIDE 0)
    × ((j : ℕ) → j < l.position → row_of l.table (slice_index l.order j) ≡ replicate WIDE 0)
