use Rattle.std.proofs.Common.{◌≤◌, ◌+◌, ◌*◌, ℕ, length, arith}
use Rattle.tcc_graph.specs.Levels.{judged}
use Rattle.tcc_lanes.specs.declared.words.TheConstants.{LANES}
use Rattle.tcc_lanes.specs.private.Pricing.{ArePrices, AreRowsOn}
use Rattle.tcc_lanes.proofs.PriceRows.{rows_more}
use Rattle.tcc_lanes.proofs.price_rows.price_rows.Goals as goal

pub loop-block-preserved : goal.loop-block-preserved
loop-block-preserved c =
    let h = c.args.graph.now in
    let members = c.args.members.now in
    let from : ℕ = c.loop-block.block * LANES in
    let starts = c.tile_at-starts.result.now in
    let table = c.in_ok-prices.prices.table.items in
    let order : from ≤ length members = omega (arith, c.div_ceil-block-end.ensures, c.loop-block-test.true) in
    let prices : ArePrices (judged h c.args.level) members starts c.longest_walk-longest.result table = c.in_ok-prices.ensures.prices in
    let rows : AreRowsOn h members table starts (length starts) c.loop-block.rows.items c.push_rows.new.rows.items
    = c.in_ok-push_rows.ensures h (rw c.deref-in-loop-block-3.ensures.value c.in_ok-pairs.ensures) in
    rows_more h c.args.level members starts table c.longest_walk-longest.result c.args.most prices c.longest_walk-longest.ensures.all from
    ((c.loop-block.block + 1) * LANES) c.tile_at-starts.ensures.tiled order (omega arith) c.loop-block.rows.items c.push_rows.new.rows.items
    c.loop-block.invariant rows
