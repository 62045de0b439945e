use Rattle.std.proofs.Common.{◌≡◌, ◌<◌, ◌∙◌, ℕ, get_or, arith}
use Rattle.tcc_reads.specs.History.{count}
use Rattle.tcc_graph.specs.Tables.{row_of}
use Rattle.tcc_order.proofs.Readings.{reader_below}
use Rattle.tcc_order.proofs.Stepped.{some_more, some_all}
use Rattle.tcc_order.proofs.atomic_links.links_into.Goals as goal

pub row-before-requires : goal.row-before-requires
row-before-requires c =
    let readings = c.readings_at.ensures in
    let below = reader_below c.args.graph.now c.args.a _ _ readings.long readings.each c.loop-index.index c.loop-index-test.true in
    omega (arith, below, c.requires.rows.long)

pub keep_read-requires-clause-reader : goal.keep_read-requires-clause-reader
keep_read-requires-clause-reader c =
    let h = c.args.graph.now in
    let rows = c.args.rows.now in
    let readings = c.readings_at.ensures in
    let reader : ℕ = get_or c.readings_at.result.0.now c.loop-index.index 0 in
    let below : reader < count h = reader_below h c.args.a _ _ readings.long readings.each c.loop-index.index c.loop-index-test.true in
    let is : c.row-before.result.now ≡ row_of rows reader = c.row-before.ensures in
    record { numbered = c.requires.numbered; owned = c.requires.owners; below = below; before = rw is (c.requires.rows.each reader below) }

pub loop-index-preserved : goal.loop-index-preserved
loop-index-preserved c =
    let readings = c.readings_at.ensures in (
      c.in_ok-keep_read.ensures.same ∙ c.loop-index.invariant.0,
      some_more c.args.graph.now c.args.a _ _ readings.long readings.each c.loop-index.index c.loop-index-test.true c.loop-index.kept c.keep_read.new.kept
          c.loop-index.invariant.1 c.in_ok-keep_read.ensures.kept,
    )

pub returns-clause-kept : goal.returns-clause-kept
returns-clause-kept c =
    let readings = c.readings_at.ensures in
    some_all c.args.graph.now c.args.a _ _ readings.long readings.each c.loop-index.index (omega (arith, c.loop-index-test.false)) c.loop-index.kept
    c.loop-index.invariant.1
