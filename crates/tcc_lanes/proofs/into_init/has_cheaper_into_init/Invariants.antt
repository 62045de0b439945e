use Rattle.std.proofs.Common.{◌*◌}
use Rattle.tcc_reads.specs.History.{count}
use Rattle.tcc_graph.specs.Levels.{judged}
use Rattle.tcc_lanes.specs.declared.words.TheConstants.{LANES}
use Rattle.tcc_lanes.proofs.IntoInit.{NoneTo}
use Rattle.tcc_lanes.proofs.into_init.has_cheaper_into_init.Given as goal

abbrev pub invariant-loop-block : goal.invariant-loop-block
invariant-loop-block l = NoneTo (judged l.graph l.level) l.longest (count l.graph) l.key_indices (l.block * LANES)
