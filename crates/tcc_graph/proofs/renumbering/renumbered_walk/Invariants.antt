use Rattle.std.proofs.Common.{◌≡◌, map, take}
use Rattle.tcc_graph.specs.Renumbered.{step_by}
use Rattle.tcc_graph.proofs.renumbering.renumbered_walk.Given as goal

abbrev pub invariant-loop-step : goal.invariant-loop-step
invariant-loop-step g l = l.steps.items ≡ map (step_by (g.N.Renumbering.by l.numbers)) (take l.step-index l.walk)
