use Rattle.std.proofs.Common.{◌<◌, ℕ, length}
use Rattle.tcc_graph.specs.Levels.{judged}
use Rattle.tcc_lanes.specs.private.Pricing.{HasReturn}
use Rattle.tcc_lanes.proofs.cycle_among.cheaper_among.Given as goal

abbrev pub invariant-loop-start : goal.invariant-loop-start
invariant-loop-start l = (s : ℕ) → s < l.start → s < length l.members → HasReturn (judged l.graph l.fn.level) l.members l.most s → ⊥
