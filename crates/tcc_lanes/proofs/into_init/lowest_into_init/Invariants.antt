use Rattle.std.proofs.Common.{◌*◌}
use Rattle.tcc_graph.specs.Levels.{judged}
use Rattle.tcc_lanes.specs.declared.words.TheConstants.{LANES}
use Rattle.tcc_lanes.proofs.IntoInit.{IsLowestTo}
use Rattle.tcc_lanes.proofs.into_init.lowest_into_init.Given as goal

abbrev pub invariant-loop-block : goal.invariant-loop-block
invariant-loop-block l = IsLowestTo (judged l.graph l.level) l.most l.walk_most l.key_indices (l.block * LANES) l.end
