use Rattle.tcc_graph.specs.Levels.{judged}
use Rattle.tcc_graph.specs.declared.level.Level.{Level}
use Rattle.tcc_least.specs.Shapes.{NoneBelow}
use Rattle.tcc_first.proofs.starts.first_start.Given as goal

abbrev pub invariant-loop-steps : goal.invariant-loop-steps
invariant-loop-steps l = (level : Level) → NoneBelow (judged l.graph level) l.steps
