-- The results of a step and of a run of the machine.
use Rattle.std.specs.Prelude.{◌≡◌, List, take, slice_get, Some, Result, Ok, Err}
use Rattle.tcc_graph.specs.Levels.{Judged}
use Rattle.tcc_steal.specs.Steps.{IsEnabled, Runs}
use Rattle.tcc_steal.specs.Machines.{Machine, world_of}
use Rattle.tcc_steal.specs.declared.event.Event.{Event}
use Rattle.tcc_steal.specs.declared.event.StepFault.{StepFault}
use Rattle.tcc_steal.specs.declared.event.StepFault.TheVariants as fault
use Rattle.tcc_steal.specs.declared.event.RunFault.{RunFault}

-- a step is done where the event was enabled; it is refused where it was not or memory was refused, and then nothing changes
abbrev pub Answers : {U : Type 0} → Machine → Event → Result U StepFault → Machine → Type 0
Answers old e (Ok done) new = IsEnabled (world_of old) e
Answers old e (Err fault.NotEnabled) new = (world_of new ≡ world_of old) × (IsEnabled (world_of old) e → ⊥)
Answers old e (Err fault.NoMemory) new = world_of new ≡ world_of old

-- all events were done, or those before the one that was refused
abbrev pub HasRun : {U : Type 0} → Judged → Machine → List Event → Result U RunFault → Machine → Type 0
HasRun j old events (Ok done) new = Runs j (world_of old) events (world_of new)
HasRun j old events (Err why) new = Runs j (world_of old) (take why.at events) (world_of new)

-- the event at which a run stopped was refused
abbrev pub StopsAt : {U : Type 0} → List Event → Result U RunFault → Machine → Type 0
StopsAt events (Ok done) new = Unit {0}
StopsAt events (Err why) new = (e : Event) × (slice_get events why.at ≡ Some e) × Answers {U = Unit {0}} new e (Err why.fault) new
