use Rattle.tcc_graph.specs.private.Graphs.{AreNamed}
use Rattle.tcc_graph.proofs.named.named_by.Given as goal

abbrev pub invariant-loop-n : goal.invariant-loop-n
invariant-loop-n l = AreNamed l.graph l.n l.names.items
