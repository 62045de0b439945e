-- the links so far were seen
use Rattle.tcc_rules.specs.Links.{AreSeenTo}
use Rattle.tcc_rules.proofs.links.first_wrong_link.Given as goal
use Rattle.tcc_graph.specs.Levels.{judged}

abbrev pub invariant-loop-before : goal.invariant-loop-before
invariant-loop-before l = AreSeenTo (judged l.graph l.level) l.cost l.links l.before l.seen
