use Rattle.tcc_graph.proofs.RouteLemmas.{IsRestOf}
use Rattle.tcc_graph.proofs.routes.lead.Given as goal
use Rattle.tcc_graph.specs.Levels.{judged}

abbrev pub invariant-loop-link : goal.invariant-loop-link
invariant-loop-link l = IsRestOf (judged l.graph l.level) l.start l.at l.end l.link-index l.links
