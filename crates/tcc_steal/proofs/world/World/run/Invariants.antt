use Rattle.std.proofs.Common.{◌≡◌, take}
use Rattle.tcc_graph.specs.Levels.{Judged}
use Rattle.tcc_derive.specs.Prices.{IsPricesOf}
use Rattle.tcc_steal.specs.Steps.{Runs}
use Rattle.tcc_steal.specs.Machines.{world_of, IsMachineOf}
use Rattle.tcc_steal.proofs.world.World.run.Given as goal

abbrev pub invariant-loop-at : goal.invariant-loop-at
invariant-loop-at l =
    (l.self.starts ≡ l.fn.self.starts)
    × ((j : Judged) → IsPricesOf j l.prices → IsMachineOf j l.fn.self
    → IsMachineOf j l.self × Runs j (world_of l.fn.self) (take l.at l.events) (world_of l.self))
