-- the needs so far
use Rattle.std.proofs.Common.{◌≡◌, ◌++◌, take}
use Rattle.std.specs.Prelude.{flat_map}
use Rattle.tcc_slices.specs.private.Needing.{needs_of_step}
use Rattle.tcc_slices.proofs.needs.Needs.add_steps.Given as goal

abbrev pub invariant-loop-step : goal.invariant-loop-step
invariant-loop-step l = l.self.each.items ≡ l.initial.self.each.items ++ flat_map needs_of_step (take l.step-index l.steps)
