-- Cycles picked from the back, link by link, and walks step by step.
use Rattle.std.specs.Prelude.{ℕ, ◌≤◌, ◌≡◌, ◌≢◌, List, ◌∷◌, ◌++◌, length}
use Rattle.std.specs.declared.cmp.Ordering.TheVariants.{Greater}
use Rattle.tcc_graph.specs.Levels.{Judged, IsAllowedWalk}
use Rattle.tcc_graph.specs.Routes.{IsLeastCycle}
use Rattle.tcc_graph.specs.Ties.{step_cmp, link_cmp}
use Rattle.tcc_graph.specs.declared.step.Step.{Step}
use Rattle.tcc_graph.specs.declared.link.Link.{Link}

-- the links end some least cycle from s
abbrev pub EndsLeastCycle : Judged → ℕ → List Link → Type 0
EndsLeastCycle j s links = (front : List Link) × IsLeastCycle j s (front ++ links)

-- No least cycle starts at a lower number. Each link, from the last backwards, is the first that, followed by those picked
-- already, ends some least cycle from s.
pub record IsPickedCycle (j : Judged) (s : ℕ) (links : List Link) : Type 0 where
  pub least : IsLeastCycle j s links
  pub lowest : (t : ℕ) (others : List Link) → IsLeastCycle j t others → s ≤ t
  pub each : (front : List Link) (l : Link) (picked : List Link) → links ≡ front ++ l ∷ picked
      → (other : Link) → EndsLeastCycle j s (other ∷ picked) → link_cmp l other ≢ Greater

-- a walk from b to c that the level allows, and no such walk is shorter
pub record IsShortestWalk (j : Judged) (b : ℕ) (c : ℕ) (walk : List Step) : Type 0 where
  pub leads : IsAllowedWalk j b c walk
  pub least : (others : List Step) → IsAllowedWalk j b c others → length walk ≤ length others

-- the steps end some shortest walk from b to c
abbrev pub EndsShortestWalk : Judged → ℕ → ℕ → List Step → Type 0
EndsShortestWalk j b c steps = (front : List Step) × IsShortestWalk j b c (front ++ steps)

-- each step, from the last backwards, is the first that, followed by those picked already, ends some shortest walk
pub record IsPickedWalk (j : Judged) (b : ℕ) (c : ℕ) (walk : List Step) : Type 0 where
  pub shortest : IsShortestWalk j b c walk
  pub each : (front : List Step) (s : Step) (picked : List Step) → walk ≡ front ++ s ∷ picked
      → (other : Step) → EndsShortestWalk j b c (other ∷ picked) → step_cmp s other ≢ Greater
