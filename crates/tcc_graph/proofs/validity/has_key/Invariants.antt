use Rattle.std.proofs.Common.{◌≡◌, false, map, take}
use Rattle.tcc_graph.specs.KeyIndices.{name_of}
use Rattle.tcc_graph.specs.Keys.{has_name}
use Rattle.tcc_graph.proofs.validity.has_key.Given as goal

abbrev pub invariant-loop-key_index : goal.invariant-loop-key_index
invariant-loop-key_index l = has_name (take l.key_index-index (map (name_of l.keys) l.key_indices)) l.key ≡ false
