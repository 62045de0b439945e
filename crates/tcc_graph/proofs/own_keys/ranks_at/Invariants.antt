use Rattle.std.proofs.Common.{◌≡◌, map, take}
use Rattle.tcc_graph.specs.private.Marks.{rank_at}
use Rattle.tcc_graph.proofs.own_keys.ranks_at.Given as goal

abbrev pub invariant-loop-index : goal.invariant-loop-index
invariant-loop-index l = l.found.items ≡ map (rank_at l.ranks) (take l.index-index l.indices)
