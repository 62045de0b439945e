use Rattle.std.proofs.Common.{◌≡◌, ◌≤◌, ◌++◌, length, drop}
use Rattle.tcc_graph.specs.private.Marks.{kept_of, ranks_from}
use Rattle.tcc_graph.proofs.own_keys.kept_names.Given as goal

abbrev pub invariant-loop-index : goal.invariant-loop-index
invariant-loop-index l = record {
  names : l.kept.items ++ kept_of (drop l.index l.names) (drop l.index l.marks) ≡ kept_of l.names l.marks;
  ranks : l.ranks.items ++ ranks_from (length l.kept.items) (drop l.index l.marks) ≡ ranks_from 0 l.marks;
  few : length l.kept.items ≤ l.index;
}
