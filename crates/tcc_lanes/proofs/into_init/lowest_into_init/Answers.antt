use Rattle.std.proofs.Common.{◌+◌, ◌*◌, arith}
use Rattle.tcc_graph.specs.Levels.{judged}
use Rattle.tcc_lanes.specs.declared.words.TheConstants.{LANES}
use Rattle.tcc_lanes.proofs.IntoInit.{lowest_found, lowest_missed, lowest_more}
use Rattle.tcc_lanes.proofs.into_init.lowest_into_init.Goals as goal

pub loop-block-preserved : goal.loop-block-preserved
loop-block-preserved c =
    lowest_more (judged c.args.graph.now c.args.level) c.args.most c.saturating_sub-walk_most.result c.args.key_indices.now
    (omega (arith, c.saturating_sub-walk_most.ensures)) (c.loop-block.block * LANES) ((c.loop-block.block + 1) * LANES) c.loop-block.end c.in_ok-end.end
    c.tile_at-tile.result.now c.tile_at-tile.ensures.tiled c.loop-block.invariant c.in_ok-end.ensures

pub returns-then-end-count : goal.returns-then-end-count
returns-then-end-count c =
    lowest_missed (judged c.args.graph.now c.args.level) c.args.most c.saturating_sub-walk_most.result c.args.key_indices.now
    (omega (arith, c.saturating_sub-walk_most.ensures)) (c.loop-block.block * LANES) c.loop-block.end
    (omega (arith, c.div_ceil-block-end.ensures, c.loop-block-test.false, c.loop-block.auto.block-end)) c.loop-block.invariant
    (omega (arith, c.if-end-count.true, c.count.ensures.value))

pub returns : goal.returns
returns c =
    lowest_found (judged c.args.graph.now c.args.level) c.args.most c.saturating_sub-walk_most.result c.args.key_indices.now
    (omega (arith, c.saturating_sub-walk_most.ensures)) (c.loop-block.block * LANES) c.loop-block.end
    (omega (arith, c.div_ceil-block-end.ensures, c.loop-block-test.false, c.loop-block.auto.block-end)) c.loop-block.invariant
    (omega (arith, c.if-end-count.false, c.count.ensures.value))
