use Rattle.std.proofs.Common.{◌<◌, ℕ}
use Rattle.tcc_reads.specs.History.{count}
use Rattle.tcc_graph.specs.Levels.{causally}
use Rattle.tcc_graph.specs.Tables.{row_of}
use Rattle.tcc_near.specs.private.Breadth.{HasLengths}
use Rattle.tcc_near.specs.private.Backwards.{AreKnown}
use Rattle.tcc_near.proofs.topological.rows_backwards.Given as goal

abbrev pub invariant-loop-source : goal.invariant-loop-source
invariant-loop-source l =
    AreKnown l.pairs.history l.rows.items
    × ((u : ℕ) → u < l.source → u < count l.pairs.history → HasLengths (causally l.pairs.history) u (row_of l.rows.items u))
