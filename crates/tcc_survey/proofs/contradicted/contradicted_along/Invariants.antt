use Rattle.tcc_graph.specs.Levels.{judged}
use Rattle.tcc_survey.specs.private.Listed.{AreContradictedUpTo}
use Rattle.tcc_survey.proofs.contradicted.contradicted_along.Given as goal

abbrev pub invariant-loop-index : goal.invariant-loop-index
invariant-loop-index g l = AreContradictedUpTo (judged l.graph l.fn.level) l.read-items l.index l.list.items
