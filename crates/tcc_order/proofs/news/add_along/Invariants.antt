use Rattle.std.proofs.Common.{◌≡◌, ℕ, length, take}
use Rattle.std.specs.List.{Contains}
use Rattle.tcc_graph.specs.Tables.{row_of}
use Rattle.tcc_clocks.specs.private.Rows.{HasEntries}
use Rattle.tcc_clocks.specs.declared.side.Side.TheVariants.{Past}
use Rattle.tcc_order.specs.private.News.{AreNoted, AreReadingsOf, HaveHeads}
use Rattle.tcc_order.proofs.NewsLemmas.{ArePassed}
use Rattle.tcc_order.proofs.news.add_along.Given as goal

abbrev pub invariant-loop-position : goal.invariant-loop-position
invariant-loop-position l =
    (length l.rows ≡ length l.initial.rows)
    × (length l.last ≡ length l.initial.last)
    × ((a : ℕ) → AreReadingsOf l.block.graph.now a (row_of l.rows a))
    × AreNoted l.block.graph.now l.block.from (Contains (take l.position l.order)) l.last
    × ArePassed l.block.graph.now l.block.from l.table l.order l.rows l.position
    × (length l.heads ≡ length l.initial.heads)
    × HaveHeads l.block.graph.now l.block.from l.block.floor (Contains (take l.position l.order)) l.heads
    × HasEntries Past l.block.graph.now l.block.from (Contains (take l.position l.order)) l.table
