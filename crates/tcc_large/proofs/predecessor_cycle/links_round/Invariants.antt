use Rattle.tcc_graph.specs.Levels.{judged}
use Rattle.tcc_large.proofs.Retraced.{AreBack}
use Rattle.tcc_large.proofs.predecessor_cycle.links_round.Given as goal

abbrev pub invariant-loop-index : goal.invariant-loop-index
invariant-loop-index l = AreBack (judged l.graph l.level) l.numbers l.index l.links.items
