-- Where the first of the least cycles starts.
use Rattle.std.specs.Prelude.{ℕ, ◌≤◌, ◌≡◌, List}
use Rattle.tcc_graph.specs.Levels.{Judged}
use Rattle.tcc_graph.specs.Links.{cost}
use Rattle.tcc_graph.specs.Routes.{IsCycle, IsLeastCycle}
use Rattle.tcc_graph.specs.declared.link.Link.{Link}
use Rattle.tcc_least.specs.Shapes.{NoneBelow}

-- a least cycle of n steps starts at s, and none starts below s
pub record IsFirstStart (j : Judged) (s : ℕ) (n : ℕ) : Type 0 where
  pub attained : (links : List Link) × IsCycle j s links × (cost links ≡ n)
  pub least : NoneBelow j n
  pub lowest : (t : ℕ) (others : List Link) → IsLeastCycle j t others → s ≤ t
