-- The costs of cycles that a walk makes, or a walk and one derived link back.
use Rattle.std.specs.Prelude.{ℕ, ◌≤◌, ◌+◌, List, length}
use Rattle.tcc_graph.specs.Levels.{Judged, IsAllowedWalk}
use Rattle.tcc_graph.specs.Links.{link_cost}
use Rattle.tcc_graph.specs.declared.step.Step.{Step}
use Rattle.tcc_graph.specs.declared.link.Link.{Link}
use Rattle.tcc_derive.specs.Prices.{IsDerived}
use Rattle.tcc_core.specs.Shares.{IsCycleCost}

-- Some cycle costs c. No allowed walk that ends where it begins has fewer steps. No allowed walk from a to b, together with a derived link
-- from b to a, costs less.
pub record IsSeed (j : Judged) (c : ℕ) : Type 0 where
  pub cycle : IsCycleCost j c
  pub around : (a : ℕ) (walk : List Step) → IsAllowedWalk j a a walk → c ≤ length walk
  pub back : (a : ℕ) (b : ℕ) (walk : List Step) (l : Link) → IsAllowedWalk j a b walk → IsDerived j b a l → c ≤ length walk + link_cost l

-- no allowed walk ends where it begins, and no derived link leads back from where an allowed walk ends to where it begins
pub record HasNoSeed (j : Judged) : Type 0 where
  pub around : (a : ℕ) (walk : List Step) → IsAllowedWalk j a a walk → ⊥
  pub back : (a : ℕ) (b : ℕ) (walk : List Step) (l : Link) → IsAllowedWalk j a b walk → IsDerived j b a l → ⊥
