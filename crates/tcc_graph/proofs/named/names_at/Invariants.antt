use Rattle.std.proofs.Common.{◌≡◌, map, take}
use Rattle.tcc_graph.specs.KeyIndices.{name_of}
use Rattle.tcc_graph.proofs.named.names_at.Given as goal

abbrev pub invariant-loop-key_index : goal.invariant-loop-key_index
invariant-loop-key_index l = l.names.items ≡ map (name_of l.keys) (take l.key_index-index l.key_indices)
