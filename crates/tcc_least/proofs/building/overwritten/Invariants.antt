use Rattle.std.proofs.Common.{map}
use Rattle.tcc_graph.specs.Keys.{key_at}
use Rattle.tcc_least.proofs.Built.{NoneOverwritten}
use Rattle.tcc_least.proofs.building.overwritten.Given as goal

abbrev pub invariant-loop-index : goal.invariant-loop-index
invariant-loop-index l = NoneOverwritten l.graph l.from l.readers (map (key_at l.graph) l.key_indices) l.index
