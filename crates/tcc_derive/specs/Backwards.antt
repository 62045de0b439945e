-- Walks that a level allows, from the last step backwards.
use Rattle.std.specs.Prelude.{ℕ, ◌≤◌, ◌≡◌, ◌≢◌, List, length}
use Rattle.std.specs.declared.cmp.Ordering.TheVariants.{Greater}
use Rattle.tcc_graph.specs.Levels.{Judged, IsAllowedWalk}
use Rattle.tcc_graph.specs.Ties.{walk_cmp}
use Rattle.tcc_graph.specs.declared.step.Step.{Step}

-- an allowed walk from b to c with the fewest steps, and the first of these from the last step backwards
pub record IsFirstWalk (j : Judged) (b : ℕ) (c : ℕ) (walk : List Step) : Type 0 where
  pub leads : IsAllowedWalk j b c walk
  pub least : (others : List Step) → IsAllowedWalk j b c others → length walk ≤ length others
  pub first : (others : List Step) → IsAllowedWalk j b c others → length others ≡ length walk → walk_cmp walk others ≢ Greater
