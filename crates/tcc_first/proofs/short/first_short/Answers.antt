use Rattle.std.proofs.Common.{arith}
use Rattle.tcc_graph.specs.declared.level.Level.TheVariants.{Causal}
use Rattle.tcc_first.proofs.short.first_short.Goals as goal

pub links_from-requires-clause-start : goal.links_from-requires-clause-start
links_from-requires-clause-start c = (c.in-Some.ensures Causal).0

pub links_from-requires-clause-few : goal.links_from-requires-clause-few
links_from-requires-clause-few c = (c.in-Some.ensures Causal).2

pub links_from-requires-clause-first : goal.links_from-requires-clause-first
links_from-requires-clause-first c = λ level. (c.in-Some.ensures level).1

pub returns : goal.returns
returns c = λ level. let first = c.in_ok-links_from.ensures level in (first.0, omega (arith, first.1, (c.in-Some.ensures level).2))
