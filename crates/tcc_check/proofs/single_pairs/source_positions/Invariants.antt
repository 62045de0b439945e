use Rattle.std.proofs.Common.{length}
use Rattle.tcc_graph.specs.Keys.{keys}
use Rattle.tcc_check.proofs.OnePair.{AreLowTo}
use Rattle.tcc_check.proofs.single_pairs.source_positions.Given as goal

abbrev pub invariant-loop-key : goal.invariant-loop-key
invariant-loop-key l = AreLowTo l.key-index (length (keys l.graph)) l.key-items l.positions l.sources.items
