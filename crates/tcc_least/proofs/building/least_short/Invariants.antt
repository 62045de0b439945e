use Rattle.std.proofs.Common.{◌-◌}
use Rattle.tcc_graph.specs.Levels.{judged}
use Rattle.tcc_graph.specs.declared.level.Level.{Level}
use Rattle.tcc_least.specs.Shapes.{NoneBelow}
use Rattle.tcc_least.proofs.building.least_short.Given as goal

abbrev pub invariant-loop-below : goal.invariant-loop-below
invariant-loop-below l = (level : Level) → NoneBelow (judged l.graph level) (l.below - 1)
