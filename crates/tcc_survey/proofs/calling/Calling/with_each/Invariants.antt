use Rattle.std.proofs.Common.{take}
use Rattle.tcc_graph.specs.Levels.{judged}
use Rattle.tcc_survey.specs.private.Called.{IsCalledAmong}
use Rattle.tcc_survey.proofs.calling.Calling.with_each.Given as goal

abbrev pub invariant-loop-b : goal.invariant-loop-b
invariant-loop-b l =
    IsCalledAmong (judged l.self.knowledge.graph.now l.self.level) l.self.from (take l.b-index l.among) l.self.reading l.best
