-- Where the first of the least cycles goes.
use Rattle.std.specs.Prelude.{◌<◌, All}
use Rattle.tcc_reads.specs.History.{count}
use Rattle.tcc_graph.specs.Levels.{Judged}
use Rattle.tcc_least.specs.Shapes.{NoneBelow}
use Rattle.tcc_lanes.specs.Picked.{IsPickedAround}
use Rattle.tcc_judge.specs.declared.picking.FirstAround.{FirstAround}

-- no cycle costs less, and the links of the first that costs as much begin at these transactions
pub record IsFirstAround (j : Judged) (first : FirstAround) : Type 0 where
  pub some : 0 < first.steps
  pub none : NoneBelow j first.steps
  pub inside : All (λ v. v < count j.history) first.circle.items
  pub picked : IsPickedAround j first.steps first.circle.items
