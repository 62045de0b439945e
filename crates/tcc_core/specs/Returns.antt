-- What searches from all starts have found where there is a cycle.
use Rattle.std.specs.Prelude.{ℕ, ◌<◌, ◌≤◌, ◌≡◌, ◌-◌, List, length, Option, None, Some, slice_index_or}
use Rattle.tcc_reads.specs.History.{count}
use Rattle.tcc_graph.specs.Levels.{Judged}
use Rattle.tcc_graph.specs.Links.{cost}
use Rattle.tcc_graph.specs.Routes.{IsLeastCycle, IsDistance}
use Rattle.tcc_graph.specs.declared.link.Link.{Link}
use Rattle.tcc_core.specs.Shares.{IsCappedDistance}
use Rattle.tcc_core.specs.declared.first_return.FirstReturn.{FirstReturn}

-- what it costs to come to v from the start upward, as the row has it
abbrev pub come_to : FirstReturn → ℕ → Option ℕ
come_to r v = slice_index_or r.row.now (v - r.start) None

-- A least cycle has this cost. The start is the lowest from which a route upward leads back at that cost. The row has the distances from
-- there upward, capped at the cost.
pub record IsFirstReturn (j : Judged) (r : FirstReturn) : Type 0 where
  pub least : (s : ℕ) × (links : List Link) × IsLeastCycle j s links × (cost links ≡ r.cost)
  pub back : IsDistance j r.start r.start r.cost
  pub first : (t : ℕ) → t < r.start → IsDistance j t t r.cost → ⊥
  pub long : length r.row.now ≡ count j.history - r.start
  pub exact : (v : ℕ) → r.start ≤ v → v < count j.history → IsCappedDistance j r.start v (Some r.cost) (come_to r v)
