use Rattle.std.proofs.Common.{◌+◌, ◌*◌, arith}
use Rattle.tcc_lanes.specs.declared.words.TheConstants.{LANES}
use Rattle.tcc_lanes.proofs.TileLemmas.{tile_of}
use Rattle.tcc_lanes.proofs.tiles.tile_at.Goals as goal

pub returns-clause-tiled : goal.returns-clause-tiled
returns-clause-tiled c =
    tile_of c.args.items.now (c.args.block * LANES) c.min-end.result ((c.args.block + 1) * LANES) (omega (arith, c.min-end.ensures)) (omega (arith, c.requires, c.min-end.ensures))
