-- What an event that needs no prices does to a machine.
use Rattle.std.specs.Prelude.{◌≡◌, Result, OnOk}
use Rattle.tcc_graph.specs.Levels.{Judged}
use Rattle.tcc_steal.specs.Steps.{Happens}
use Rattle.tcc_steal.specs.Machines.{Machine, world_of, IsMachineOf}
use Rattle.tcc_steal.specs.Outcomes.{Answers}
use Rattle.tcc_steal.specs.declared.event.Event.{Event}
use Rattle.tcc_steal.specs.declared.event.StepFault.{StepFault}

-- it has as many starts and is one of the same history, the event happens where it is done, and the result says so
abbrev pub Makes : {U : Type 0} → Event → Machine → Result U StepFault → Machine → Type 0
Makes e old result new =
    (new.starts ≡ old.starts)
    × ((j : Judged) → IsMachineOf j old → IsMachineOf j new)
    × ((j : Judged) → IsMachineOf j old → OnOk result (Happens j (world_of old) e (world_of new)))
    × Answers old e result new
