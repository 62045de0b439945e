use Rattle.std.proofs.Common.{◌≤◌, ◌+◌, ◌*◌, ℕ, length, replicate, arith}
use Rattle.tcc_reads.specs.History.{count}
use Rattle.tcc_graph.specs.Levels.{judged}
use Rattle.tcc_lanes.specs.declared.pricing.TheConstants.{NONE}
use Rattle.tcc_lanes.specs.declared.words.TheConstants.{LANES}
use Rattle.tcc_lanes.specs.private.Pricing.{ArePrices}
use Rattle.tcc_lanes.proofs.ClosingLemmas.{from_all, from_more}
use Rattle.tcc_lanes.proofs.two_step_links.find_closings.Goals as goal

pub loop-block-preserved : goal.loop-block-preserved
loop-block-preserved c =
    let h = c.args.graph.now in
    let targets = c.args.targets.now in
    let from : ℕ = c.loop-block.block * LANES in
    let starts = c.tile_at-starts.result.now in
    let table = c.in_ok-prices.prices.table.items in
    let order : from ≤ length c.args.sources.now = omega (arith, c.div_ceil-block-end.ensures, c.loop-block-test.true) in
    let prices : ArePrices (judged h c.args.level) targets starts c.longest_walk-longest.result table = c.in_ok-prices.ensures.prices in
    from_more h c.args.level c.args.positions.now c.args.most c.args.sources.now targets c.requires.some (omega (arith, c.ranges.most.fits)) c.longest_walk-longest.result
    (λ walk allowed few. c.longest_walk-longest.ensures.all walk allowed (omega (arith, c.saturating_sub.ensures, few))) from ((c.loop-block.block + 1) * LANES) starts table c.tile_at-starts.ensures.tiled order (omega arith) prices
    (replicate (count h) NONE) (replicate (count h) 0) c.loop-block.found.prices.items c.loop-block.found.lasts.items c.offer_table.new.found.prices.items
    c.offer_table.new.found.lasts.items c.loop-block.invariant c.offer_table.ensures

pub returns : goal.returns
returns c =
    let h = c.args.graph.now in
    from_all h c.args.level c.args.positions.now c.args.most c.args.sources.now c.args.targets.now c.requires.some (omega (arith, c.ranges.most.fits)) c.longest_walk-longest.result
    (λ walk allowed few. c.longest_walk-longest.ensures.all walk allowed (omega (arith, c.saturating_sub.ensures, few))) (replicate (count h) NONE) (replicate (count h) 0) c.loop-block.found.prices.items c.loop-block.found.lasts.items
    (c.loop-block.block * LANES) (omega (arith, c.div_ceil-block-end.ensures, c.loop-block-test.false)) c.loop-block.invariant
