use Rattle.std.proofs.Common.{◌≡◌, slice_index, arith}
use Rattle.tcc_graph.specs.Tables.{row_of}
use Rattle.tcc_order.proofs.NewsLemmas.{alike_more}
use Rattle.tcc_order.proofs.news.are_sources_same.Goals as goal

pub loop-index-init : goal.loop-index-init
loop-index-init c = λ k above l. absurd (omega (arith, above, l))

pub loop-index-preserved : goal.loop-index-preserved
loop-index-preserved c =
    alike_more (λ k. row_of c.args.table.now (slice_index c.args.found.now k) ≡ row_of c.args.table.now c.args.c) c.loop-index.index c.loop-index.invariant
    (c.are_same.ensures c.if-not-are_same.false)
