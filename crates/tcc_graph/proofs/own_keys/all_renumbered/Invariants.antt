use Rattle.std.proofs.Common.{◌≡◌, map, take}
use Rattle.tcc_graph.specs.private.Marks.{moved_by}
use Rattle.tcc_graph.proofs.own_keys.all_renumbered.Given as goal

abbrev pub invariant-loop-number : goal.invariant-loop-number
invariant-loop-number l = l.moved ≡ map (moved_by l.ranks) (take l.number l.transactions)
