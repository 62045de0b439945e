use Rattle.std.proofs.Common.{◌≡◌, ℕ, length}
use Rattle.tcc_graph.specs.Tables.{row_of}
use Rattle.tcc_order.specs.private.News.{AreReadingsOf, AreWider}
use Rattle.tcc_order.proofs.NewsLemmas.{AreTold}
use Rattle.tcc_order.proofs.news.add_readings.Given as goal

abbrev pub invariant-loop-read : goal.invariant-loop-read
invariant-loop-read l =
    (length l.rows ≡ length l.initial.rows)
    × AreWider l.initial.rows l.rows
    × ((a : ℕ) → AreReadingsOf l.block.graph.now a (row_of l.rows a))
    × AreTold l.block.graph.now l.block.from l.table l.c l.read-items l.rows l.read-index
