use Rattle.std.proofs.Common.{◌*◌}
use Rattle.tcc_graph.specs.Levels.{judged}
use Rattle.tcc_lanes.specs.declared.words.TheConstants.{LANES}
use Rattle.tcc_lanes.specs.private.Pricing.{ArePriceRows}
use Rattle.tcc_lanes.proofs.price_rows.price_rows.Given as goal

abbrev pub invariant-loop-block : goal.invariant-loop-block
invariant-loop-block l = ArePriceRows (judged l.graph l.level) l.members l.most (l.block * LANES) l.rows.items
